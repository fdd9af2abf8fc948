-- Faults stand within the line.
use Rattle.std.proofs.Common.{◌≡◌, ℕ, ◌+◌, ◌≤◌, Bool, true, false, cond, not, List, [], ◌∷◌, length, Option, Some, None, Result, Ok, Err, ap, arith, All, nat_eq}
use Rattle.std.specs.Prelude.{codes}
use Rattle.std.specs.List.{position}
use Rattle.std.specs.Str.{bytes_eq}
use Rattle.std.proofs.lemmas.List.Elements.{All-head, All-tail}
use Rattle.script_lines.specs.declared.stop.ScriptKind.{ScriptKind}
use Rattle.script_lines.specs.declared.stop.ScriptKind.TheVariants as Kind
use Rattle.script_lines.specs.declared.stop.LimitName.TheVariants as Limit
use Rattle.script_lines.specs.declared.stop.LineFault.{LineFault}
use Rattle.script_lines.specs.declared.stop.LineStop.{LineStop}
use Rattle.script_lines.specs.declared.stop.LineStop.TheVariants as Stop
use Rattle.script_lines.specs.Word.{LineWord}
use Rattle.script_lines.specs.Stop.{fault, and_next}
use Rattle.label_commands.specs.declared.flow_lines.hop.Hop.{Hop}
use Rattle.label_commands.specs.declared.flow_lines.flow.FlowLine.{FlowLine}
use Rattle.label_commands.specs.flow_lines.FileName.{is_file_name}
use Rattle.label_commands.specs.flow_lines.HopText.{behind_prefix, comma_parts, NamedHop, send_of_parts, forward_of_parts, receive_of_parts, node_number, numbered, read_hop}
use Rattle.label_commands.specs.flow_lines.Flow.{outputs_of, is_among, is_taken, read_input, read_output, next_hop, read_hops, read_route, read_behind_input, read_flow}

-- a fault of the result stands no further on than this
abbrev Within : {X : Type 0} → ℕ → Result X LineStop → Type 0
Within end read = (found : LineFault) → read ≡ Err (Stop.Fault found) → found.octet ≤ end

module _ {X : Type 0} (end : ℕ) where
  within_ok : (x : X) → Within end (Ok x)
  within_ok x found e = absurd (differ e) where
    differ : ◌≡◌ {A = Result X LineStop} (Ok x) (Err (Stop.Fault found)) → ⊥
    differ e = cc

  within_limit : Within {X = X} end (Err (Stop.Limit Limit.Hops))
  within_limit found e = absurd (differ e) where
    differ : ◌≡◌ {A = Result X LineStop} (Err (Stop.Limit Limit.Hops)) (Err (Stop.Fault found)) → ⊥
    differ e = cc

  within_fault : (place : ℕ) (kind : ScriptKind) → place ≤ end → Within {X = X} end (Err (fault place kind))
  within_fault place kind le found e = omega (arith, le, same e) where
    same : ◌≡◌ {A = Result X LineStop} (Err (fault place kind)) (Err (Stop.Fault found)) → place ≡ found.octet
    same e = let is : fault place kind ≡ Stop.Fault found = cc in ap (λ (f : LineFault). f.octet) (by_stop is) where
      by_stop : {f g : LineFault} → Stop.Fault f ≡ Stop.Fault g → f ≡ g
      by_stop e = cc

  within_test : (test : Bool) (a b : Result X LineStop) → Within end a → Within end b → Within end (cond test a b)
  within_test true a b wa wb = wa
  within_test false a b wa wb = wb

  within_next : {Y : Type 0} (read : Result Y LineStop) (next : Y → Result X LineStop) → Within end read → ((y : Y) → Within end (next y)) → Within end (and_next read next)
  within_next (Ok y) next w more = more y
  within_next (Err stop) next w more = λ found e. w found (ap Err (same found e)) where
    same : (found : LineFault) → ◌≡◌ {A = Result X LineStop} (Err stop) (Err (Stop.Fault found)) → stop ≡ Stop.Fault found
    same found e = cc

node_within : (nodes : List (List ℕ)) (end place : ℕ) (fits : Bool) (name : List ℕ) → place ≤ end → Within end (node_number nodes place fits name)
node_within nodes end place fits name le = by_place (position (bytes_eq name) nodes) where
  by_place : (found : Option ℕ) → Within end (elim found as (λ _. Result ℕ LineStop) [ None ↦ Err (fault place Kind.UnknownNode) | Some n ↦ cond fits (Ok n) (Err (fault place Kind.HopOrder)) ])
  by_place None = within_fault end place Kind.UnknownNode le
  by_place (Some n) = within_test end fits (Ok n) (Err (fault place Kind.HopOrder)) (within_ok end n) (within_fault end place Kind.HopOrder le)

numbered_within : (nodes : List (List ℕ)) (end place : ℕ) (fits : Bool) (said : Option NamedHop) → place ≤ end → Within end (numbered nodes place fits said)
numbered_within nodes end place fits None le = within_fault end place Kind.Value le
numbered_within nodes end place fits (Some named) le =
    within_next end (node_number nodes place fits named.0) (λ n. Ok (named.1 n)) (node_within nodes end place fits named.0 le) (λ n. within_ok end (named.1 n))

hop_within : (nodes : List (List ℕ)) (end : ℕ) (first last : Bool) (word : LineWord) → word.at ≤ end → Within end (read_hop nodes first last word)
unfolding read_hop
hop_within nodes end first last word le =
    by_kind (behind_prefix (codes "send:") word.text) (behind_prefix (codes "forward:") word.text) (behind_prefix (codes "receive:") word.text) where
      by_kind : (send forward receive : Option (List ℕ))
          → Within end (elim send as (λ _. Result Hop LineStop) [
            | Some text ↦ numbered nodes word.at first (send_of_parts (comma_parts text))
            | None ↦ elim forward as (λ _. Result Hop LineStop) [
              | Some text ↦ numbered nodes word.at true (forward_of_parts (comma_parts text))
              | None ↦ elim receive as (λ _. Result Hop LineStop) [
                | Some text ↦ numbered nodes word.at last (receive_of_parts (comma_parts text))
                | None ↦ Err (fault word.at Kind.Word)
              ]
            ]
          ])
      by_kind (Some text) forward receive = numbered_within nodes end word.at first (send_of_parts (comma_parts text)) le
      by_kind None (Some text) receive = numbered_within nodes end word.at true (forward_of_parts (comma_parts text)) le
      by_kind None None (Some text) = numbered_within nodes end word.at last (receive_of_parts (comma_parts text)) le
      by_kind None None None = within_fault end word.at Kind.Word le

abbrev StandWithin : ℕ → List LineWord → Type 0
StandWithin end words = All (λ word. word.at ≤ end) words

hops_within : (nodes : List (List ℕ)) (end count : ℕ) (words : List LineWord) → StandWithin end words → Within end (read_hops nodes count words)
hops_within nodes end count [] stand = within_ok end []
hops_within nodes end count (word ∷ words) stand =
    let last = nat_eq (length words) 0 in
    let rest = read_hops nodes (count + 1) words in
    let here = All-head (λ (w : LineWord). w.at ≤ end) word words stand in
    within_next end (next_hop nodes count last word) (λ hop. and_next rest (λ hops. Ok (hop ∷ hops)))
    (within_test end (nat_eq count 16) (Err (Stop.Limit Limit.Hops)) (read_hop nodes (nat_eq count 0) last word)
    (within_limit end) (hop_within nodes end (nat_eq count 0) last word here))
    (λ hop. within_next end rest (λ hops. Ok (hop ∷ hops)) (hops_within nodes end (count + 1) words (All-tail (λ (w : LineWord). w.at ≤ end) word words stand)) (λ hops. within_ok end (hop ∷ hops)))

route_within : (nodes : List (List ℕ)) (end : ℕ) (words : List LineWord) → StandWithin end words → Within end (read_route nodes end words)
route_within nodes end [] stand = within_fault end end Kind.Missing (omega arith)
route_within nodes end (word ∷ words) stand = hops_within nodes end 0 (word ∷ words) stand

input_within : (flows : List FlowLine) (end : ℕ) (word : LineWord) → word.at ≤ end → Within end (read_input flows word)
input_within flows end word le =
    within_test end (not (is_file_name word.text)) (Err (fault word.at Kind.Value)) _ (within_fault end word.at Kind.Value le)
    (within_test end (is_among (outputs_of flows) word.text) (Err (fault word.at Kind.NameTwice)) (Ok word.text) (within_fault end word.at Kind.NameTwice le) (within_ok end word.text))

output_within : (own : List ℕ) (flows : List FlowLine) (end : ℕ) (input : List ℕ) (word : LineWord) → word.at ≤ end → Within end (read_output own flows input word)
output_within own flows end input word le =
    within_test end (bytes_eq word.text (codes "-")) (Ok None) _ (within_ok end None)
    (within_test end (not (is_file_name word.text)) (Err (fault word.at Kind.Value)) _ (within_fault end word.at Kind.Value le)
    (within_test end (is_taken own flows input word.text) (Err (fault word.at Kind.NameTwice)) (Ok (Some word.text))
    (within_fault end word.at Kind.NameTwice le) (within_ok end (Some word.text))))

behind_input_within : (own : List ℕ) (nodes : List (List ℕ)) (flows : List FlowLine) (before end : ℕ) (input : List ℕ) (words : List LineWord) → StandWithin end words
    → Within end (read_behind_input own nodes flows before end input words)
behind_input_within own nodes flows before end input [] stand = within_fault end end Kind.Missing (omega arith)
behind_input_within own nodes flows before end input (word ∷ words) stand =
    let made = λ (output : Option (List ℕ)) (hops : List Hop). let f : FlowLine = record { input = input; output = output; hops = hops; before = before } in f in
    within_next end (read_output own flows input word) (λ o. and_next (read_route nodes end words) (λ hs. Ok (made o hs)))
    (output_within own flows end input word (All-head (λ (w : LineWord). w.at ≤ end) word words stand))
    (λ o. within_next end (read_route nodes end words) (λ hs. Ok (made o hs)) (route_within nodes end words (All-tail (λ (w : LineWord). w.at ≤ end) word words stand)) (λ hs. within_ok end (made o hs)))

pub flow_within : (own : List ℕ) (nodes : List (List ℕ)) (flows : List FlowLine) (before end : ℕ) (words : List LineWord) (found : LineFault)
    → All (λ word. word.at ≤ end) words → read_flow own nodes flows before end words ≡ Err (Stop.Fault found) → found.octet ≤ end
unfolding read_flow
flow_within own nodes flows before end [] found stand e = within_fault end end Kind.Missing (omega arith) found e
flow_within own nodes flows before end (word ∷ words) found stand e =
    within_next end (read_input flows word) (λ i. read_behind_input own nodes flows before end i words)
    (input_within flows end word (All-head (λ (w : LineWord). w.at ≤ end) word words stand))
    (λ i. behind_input_within own nodes flows before end i words (All-tail (λ (w : LineWord). w.at ≤ end) word words stand)) found e
