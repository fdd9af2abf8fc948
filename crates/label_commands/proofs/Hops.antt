-- The labels that hops name are within their bounds.
use Rattle.std.proofs.Common.{◌≡◌, ℕ, ◌+◌, Bool, true, false, cond, List, [], ◌∷◌, length, Option, Some, None, Result, Ok, Err, refl, subst, All, nat_eq, option_map}
use Rattle.std.specs.Prelude.{codes, drop}
use Rattle.std.specs.List.{join_with_byte}
use Rattle.std.proofs.lemmas.List.Elements.{All-nil, All-cons}
use Rattle.std.proofs.lemmas.Option.{none-some, same_Some}
use Rattle.mls_label.specs.declared.label.Label.{Label}
use Rattle.mls_range.specs.LabelText.{comma}
use Rattle.mls_range.specs.Computed.{label_of_text}
use Rattle.script_lines.specs.declared.stop.ScriptKind.TheVariants as Kind
use Rattle.script_lines.specs.declared.stop.LimitName.TheVariants as Limit
use Rattle.script_lines.specs.declared.stop.LineStop.{LineStop}
use Rattle.script_lines.specs.declared.stop.LineStop.TheVariants as Stop
use Rattle.script_lines.specs.Word.{LineWord}
use Rattle.script_lines.specs.Stop.{fault, and_next}
use Rattle.label_commands.specs.declared.flow_lines.hop.Hop.{Hop}
use Rattle.label_commands.specs.declared.flow_lines.hop.Hop.TheVariants.{Send, Forward, Receive}
use Rattle.label_commands.specs.declared.flow_lines.flow.FlowLine.{FlowLine}
use Rattle.label_commands.specs.flow_lines.HopText.{behind_prefix, comma_parts, are_names, NamedHop, send_of_parts, forward_of_parts, receive_of_parts, node_number, numbered, read_hop}
use Rattle.label_commands.specs.flow_lines.Flow.{next_hop, read_hops, read_route, read_flow}
use Rattle.label_commands.proofs.flow_lines.Law.{hops_stand_behind_the_names}
use Rattle.label_commands.specs.Bounded.{IsBoundedHop, IsBoundedFlow}
use Rattle.label_commands.proofs.Results.{same_ok, not_ok, went}
use Rattle.label_commands.proofs.Values.{label_within}

-- whatever the number of its node
abbrev IsBoundedNamed : NamedHop → Type 0
IsBoundedNamed named = (number : ℕ) → IsBoundedHop (named.1 number)

send_within : (parts : List (List ℕ)) (named : NamedHop) → send_of_parts parts ≡ Some named → IsBoundedNamed named
send_within [] named e = absurd (none-some named e)
send_within (a ∷ []) named e = absurd (none-some named e)
send_within (a ∷ b ∷ []) named e = absurd (none-some named e)
send_within (a ∷ b ∷ c ∷ []) named e = absurd (none-some named e)
send_within (a ∷ b ∷ c ∷ part ∷ parts) named e = by_cases (are_names (a ∷ b ∷ c ∷ [])) (label_of_text (join_with_byte comma (part ∷ parts))) refl e where
  by_cases : (t : Bool) (o : Option Label) → label_of_text (join_with_byte comma (part ∷ parts)) ≡ o
      → ◌≡◌ {A = Option NamedHop} (cond t (option_map (λ label. (a, λ number. Send number b c label)) o) None) (Some named) → IsBoundedNamed named
  by_cases false o is h = absurd (none-some named h)
  by_cases true None is h = absurd (none-some named h)
  by_cases true (Some label) is h = subst IsBoundedNamed (same_Some (a, λ number. Send number b c label) named h) (λ n. label_within (join_with_byte comma (part ∷ parts)) label is)

forward_within : (parts : List (List ℕ)) (named : NamedHop) → forward_of_parts parts ≡ Some named → IsBoundedNamed named
forward_within [] named e = absurd (none-some named e)
forward_within (a ∷ []) named e = absurd (none-some named e)
forward_within (a ∷ b ∷ []) named e = absurd (none-some named e)
forward_within (a ∷ b ∷ c ∷ []) named e = absurd (none-some named e)
forward_within (a ∷ b ∷ c ∷ d ∷ []) named e = by_cases (are_names (a ∷ b ∷ c ∷ d ∷ [])) e where
  by_cases : (t : Bool) → ◌≡◌ {A = Option NamedHop} (cond t (Some (a, λ number. Forward number b c d)) None) (Some named) → IsBoundedNamed named
  by_cases false h = absurd (none-some named h)
  by_cases true h = subst IsBoundedNamed (same_Some (a, λ number. Forward number b c d) named h) (λ n. tt)
forward_within (a ∷ b ∷ c ∷ d ∷ next ∷ parts) named e = absurd (none-some named e)

receive_within : (parts : List (List ℕ)) (named : NamedHop) → receive_of_parts parts ≡ Some named → IsBoundedNamed named
receive_within [] named e = absurd (none-some named e)
receive_within (a ∷ []) named e = absurd (none-some named e)
receive_within (a ∷ b ∷ []) named e = by_cases (are_names (a ∷ b ∷ [])) e where
  by_cases : (t : Bool) → ◌≡◌ {A = Option NamedHop} (cond t (Some (a, λ number. Receive number b)) None) (Some named) → IsBoundedNamed named
  by_cases false h = absurd (none-some named h)
  by_cases true h = subst IsBoundedNamed (same_Some (a, λ number. Receive number b) named h) (λ n. tt)
receive_within (a ∷ b ∷ next ∷ parts) named e = absurd (none-some named e)

numbered_within : (nodes : List (List ℕ)) (place : ℕ) (fits : Bool) (said : Option NamedHop) (hop : Hop) → ((named : NamedHop) → said ≡ Some named → IsBoundedNamed named) → numbered nodes place fits said ≡ Ok hop → IsBoundedHop hop
numbered_within nodes place fits None hop each e = absurd (not_ok hop _ e)
numbered_within nodes place fits (Some named) hop each e =
    let w = went (node_number nodes place fits named.0) (λ n. Ok (named.1 n)) hop e in
    subst IsBoundedHop (same_ok (named.1 w.0) hop w.2) (each named refl w.0)

module _ (nodes : List (List ℕ)) (first last : Bool) (hop : Hop) where
  text_within : (place : ℕ) (send forward receive : Option (List ℕ))
      → ◌≡◌ {A = Result Hop LineStop} (elim send as (λ _. Result Hop LineStop) [
        | Some text ↦ numbered nodes place first (send_of_parts (comma_parts text))
        | None ↦ elim forward as (λ _. Result Hop LineStop) [
          | Some text ↦ numbered nodes place true (forward_of_parts (comma_parts text))
          | None ↦ elim receive as (λ _. Result Hop LineStop) [
            | Some text ↦ numbered nodes place last (receive_of_parts (comma_parts text))
            | None ↦ Err (fault place Kind.Word)
          ]
        ]
      ]) (Ok hop) → IsBoundedHop hop
  text_within place (Some text) forward receive e = numbered_within nodes place first (send_of_parts (comma_parts text)) hop (send_within (comma_parts text)) e
  text_within place None (Some text) receive e = numbered_within nodes place true (forward_of_parts (comma_parts text)) hop (forward_within (comma_parts text)) e
  text_within place None None (Some text) e = numbered_within nodes place last (receive_of_parts (comma_parts text)) hop (receive_within (comma_parts text)) e
  text_within place None None None e = absurd (not_ok hop _ e)

  hop_within : (word : LineWord) → read_hop nodes first last word ≡ Ok hop → IsBoundedHop hop
  unfolding read_hop
  hop_within word e =
      text_within word.at (behind_prefix (codes "send:") word.text) (behind_prefix (codes "forward:") word.text) (behind_prefix (codes "receive:") word.text) e

next_within : (nodes : List (List ℕ)) (count : ℕ) (last : Bool) (word : LineWord) (hop : Hop) → next_hop nodes count last word ≡ Ok hop → IsBoundedHop hop
next_within nodes count last word hop e = by_test (nat_eq count 16) e where
  by_test : (full : Bool) → ◌≡◌ {A = Result Hop LineStop} (cond full (Err (Stop.Limit Limit.Hops)) (read_hop nodes (nat_eq count 0) last word)) (Ok hop) → IsBoundedHop hop
  by_test true h = absurd (not_ok hop _ h)
  by_test false h = hop_within nodes (nat_eq count 0) last hop word h

hops_within : (nodes : List (List ℕ)) (count : ℕ) (words : List LineWord) (hops : List Hop) → read_hops nodes count words ≡ Ok hops → All IsBoundedHop hops
hops_within nodes count [] hops e = subst (All IsBoundedHop) (same_ok [] hops e) (All-nil IsBoundedHop)
hops_within nodes count (word ∷ words) hops e =
    let last = nat_eq (length words) 0 in
    let rest = read_hops nodes (count + 1) words in
    let one = went (next_hop nodes count last word) (λ h. and_next rest (λ hs. Ok (h ∷ hs))) hops e in
    let more = went rest (λ hs. Ok (one.0 ∷ hs)) hops one.2 in
    subst (All IsBoundedHop) (same_ok (one.0 ∷ more.0) hops more.2)
    (All-cons IsBoundedHop one.0 more.0 (next_within nodes count last word one.0 one.1) (hops_within nodes (count + 1) words more.0 more.1))

route_within : (nodes : List (List ℕ)) (end : ℕ) (words : List LineWord) (hops : List Hop) → read_route nodes end words ≡ Ok hops → All IsBoundedHop hops
route_within nodes end [] hops e = absurd (not_ok hops _ e)
route_within nodes end (word ∷ words) hops e = hops_within nodes 0 (word ∷ words) hops e

pub flow_within : (own : List ℕ) (nodes : List (List ℕ)) (flows : List FlowLine) (before end : ℕ) (words : List LineWord) (flow : FlowLine)
    → read_flow own nodes flows before end words ≡ Ok flow → IsBoundedFlow flow
flow_within own nodes flows before end words flow e = route_within nodes end (drop 2 words) flow.hops (hops_stand_behind_the_names own nodes flows before end words flow e)
