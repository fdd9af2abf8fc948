-- Hops as a script's words say them.
use Rattle.std.specs.Prelude.{ℕ, Bool, true, ◌==◌, List, [], ◌∷◌, length, take, drop, Option, Some, None, Result, Ok, Err, option_map, codes, position, if◌then◌else◌}
use Rattle.std.specs.List.{list_all, join_with_byte, slice_split}
use Rattle.std.specs.Str.{bytes_eq}
use Rattle.mls_range.specs.LabelText.{comma}
use Rattle.mls_range.specs.Computed.{label_of_text}
use Rattle.script_lines.specs.declared.stop.ScriptKind.TheVariants as Kind
use Rattle.script_lines.specs.declared.stop.LineStop.{LineStop}
use Rattle.script_lines.specs.Word.{LineWord}
use Rattle.script_lines.specs.Stop.{fault, and_next}
use Rattle.domain_map.specs.address_text.Name.{is_name}
use Rattle.label_commands.specs.declared.flow_lines.hop.Hop.{Hop}
use Rattle.label_commands.specs.declared.flow_lines.hop.Hop.TheVariants.{Send, Forward, Receive}

-- what follows a beginning of the text
abbrev pub behind_prefix : List ℕ → List ℕ → Option (List ℕ)
behind_prefix prefix text = if bytes_eq (take (length prefix) text) prefix then Some (drop (length prefix) text) else None

-- the parts of a text between its commas
abbrev pub comma_parts : List ℕ → List (List ℕ)
comma_parts text = slice_split (λ octet. octet == comma) text

-- each of these is a name
abbrev pub are_names : List (List ℕ) → Bool
are_names texts = list_all is_name texts

-- what a hop's text says: the name of its node, and the hop once that node has its number
abbrev pub NamedHop : Type 0
NamedHop = List ℕ × (ℕ → Hop)

-- `<node>,<domain>,<interface>,<label>`; the label is all behind the third comma
abbrev pub send_of_parts : List (List ℕ) → Option NamedHop
send_of_parts (node ∷ domain ∷ interface ∷ part ∷ parts) =
    if are_names (node ∷ domain ∷ interface ∷ []) then option_map (λ label. (node, λ number. Send number domain interface label)) (label_of_text (join_with_byte comma (part ∷ parts))) else None
send_of_parts parts = None

-- `<node>,<from>,<to>,<domain>`
abbrev pub forward_of_parts : List (List ℕ) → Option NamedHop
forward_of_parts (node ∷ from ∷ to ∷ domain ∷ []) =
    if are_names (node ∷ from ∷ to ∷ domain ∷ []) then Some (node, λ number. Forward number from to domain) else None
forward_of_parts parts = None

-- `<node>,<interface>`
abbrev pub receive_of_parts : List (List ℕ) → Option NamedHop
receive_of_parts (node ∷ interface ∷ []) = if are_names (node ∷ interface ∷ []) then Some (node, λ number. Receive number interface) else None
receive_of_parts parts = None

-- the number of a hop's node among those named above; a hop stands only where it may
abbrev pub node_number : List (List ℕ) → ℕ → Bool → List ℕ → Result ℕ LineStop
node_number nodes place fits name = elim (position (bytes_eq name) nodes) [
  | None ↦ Err (fault place Kind.UnknownNode)
  | Some number ↦ if fits then Ok number else Err (fault place Kind.HopOrder)
]

-- the hop that a text says
abbrev pub numbered : List (List ℕ) → ℕ → Bool → Option NamedHop → Result Hop LineStop
numbered nodes place fits None = Err (fault place Kind.Value)
numbered nodes place fits (Some named) = and_next (node_number nodes place fits named.0) (λ number. Ok (named.1 number))

-- the hop of a word; first and last tell whether it is the flow's first one, and whether no word follows
unfoldable pub read_hop : List (List ℕ) → Bool → Bool → LineWord → Result Hop LineStop
read_hop nodes first last word = elim (behind_prefix (codes "send:") word.text) [
  | Some text ↦ numbered nodes word.at first (send_of_parts (comma_parts text))
  | None ↦ elim (behind_prefix (codes "forward:") word.text) [
    | Some text ↦ numbered nodes word.at true (forward_of_parts (comma_parts text))
    | None ↦ elim (behind_prefix (codes "receive:") word.text) [
      | Some text ↦ numbered nodes word.at last (receive_of_parts (comma_parts text))
      | None ↦ Err (fault word.at Kind.Word)
    ]
  ]
]
