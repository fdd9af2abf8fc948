-- Flow lines: a capture that is read, one that is written, and the hops between.
use Rattle.std.specs.Prelude.{ℕ, ◌+◌, Bool, not, ◌||◌, nat_eq, List, [], ◌∷◌, length, map, Option, Some, None, Result, Ok, Err, codes, if◌then◌else◌}
use Rattle.std.specs.List.{list_any, filter_map}
use Rattle.std.specs.Str.{bytes_eq}
use Rattle.script_lines.specs.declared.stop.ScriptKind.TheVariants as Kind
use Rattle.script_lines.specs.declared.stop.LimitName.TheVariants as Limit
use Rattle.script_lines.specs.declared.stop.LineStop.{LineStop}
use Rattle.script_lines.specs.declared.stop.LineStop.TheVariants as Stop
use Rattle.script_lines.specs.Word.{LineWord}
use Rattle.script_lines.specs.Stop.{fault, and_next}
use Rattle.label_commands.specs.declared.flow_lines.hop.Hop.{Hop}
use Rattle.label_commands.specs.declared.flow_lines.flow.FlowLine.{FlowLine}
use Rattle.label_commands.specs.flow_lines.FileName.{is_file_name}
use Rattle.label_commands.specs.flow_lines.HopText.{read_hop}

-- the text is one of these
abbrev pub is_among : List (List ℕ) → List ℕ → Bool
is_among texts text = list_any (bytes_eq text) texts

-- the captures that flows read
abbrev pub inputs_of : List FlowLine → List (List ℕ)
inputs_of flows = map (λ flow. flow.input) flows

-- the captures that flows make
abbrev pub outputs_of : List FlowLine → List (List ℕ)
outputs_of flows = filter_map (λ flow. flow.output) flows

-- an input is no output of a flow above
abbrev pub read_input : List FlowLine → LineWord → Result (List ℕ) LineStop
read_input flows word =
    if not (is_file_name word.text) then Err (fault word.at Kind.Value)
    else (if is_among (outputs_of flows) word.text then Err (fault word.at Kind.NameTwice) else Ok word.text)

-- it is the script's own name, the flow's input, or a name of a flow above
abbrev pub is_taken : List ℕ → List FlowLine → List ℕ → List ℕ → Bool
is_taken own flows input text = bytes_eq text own || bytes_eq text input || is_among (inputs_of flows) text || is_among (outputs_of flows) text

-- an output is no name that is taken; `-` is none
abbrev pub read_output : List ℕ → List FlowLine → List ℕ → LineWord → Result (Option (List ℕ)) LineStop
read_output own flows input word =
    if bytes_eq word.text (codes "-") then Ok None
    else (if not (is_file_name word.text) then Err (fault word.at Kind.Value)
    else (if is_taken own flows input word.text then Err (fault word.at Kind.NameTwice) else Ok (Some word.text)))

-- a hop behind `count` others; a seventeenth passes the limit before its own faults
abbrev pub next_hop : List (List ℕ) → ℕ → Bool → LineWord → Result Hop LineStop
next_hop nodes count last word = if nat_eq count 16 then Err (Stop.Limit Limit.Hops) else read_hop nodes (nat_eq count 0) last word

-- the hops of a flow, behind so many of them
abbrev pub read_hops : List (List ℕ) → ℕ → List LineWord → Result (List Hop) LineStop
read_hops nodes count [] = Ok []
read_hops nodes count (word ∷ words) =
    and_next (next_hop nodes count (nat_eq (length words) 0) word) (λ hop. and_next (read_hops nodes (count + 1) words) (λ hops. Ok (hop ∷ hops)))

-- one hop at least; end is the line's length
abbrev pub read_route : List (List ℕ) → ℕ → List LineWord → Result (List Hop) LineStop
read_route nodes end [] = Err (fault end Kind.Missing)
read_route nodes end (word ∷ words) = read_hops nodes 0 (word ∷ words)

-- the words behind the input
abbrev pub read_behind_input : List ℕ → List (List ℕ) → List FlowLine → ℕ → ℕ → List ℕ → List LineWord → Result FlowLine LineStop
read_behind_input own nodes flows before end input [] = Err (fault end Kind.Missing)
read_behind_input own nodes flows before end input (word ∷ words) =
    and_next (read_output own flows input word) (λ output.
    and_next (read_route nodes end words) (λ hops.
    Ok (record { input = input; output = output; hops = hops; before = before })))

-- The words behind `flow`, under the script's own name, the nodes and flows of the lines above, and how many commands these have.
unfoldable pub read_flow : List ℕ → List (List ℕ) → List FlowLine → ℕ → ℕ → List LineWord → Result FlowLine LineStop
read_flow own nodes flows before end [] = Err (fault end Kind.Missing)
read_flow own nodes flows before end (word ∷ words) = and_next (read_input flows word) (λ input. read_behind_input own nodes flows before end input words)
