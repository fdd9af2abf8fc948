-- What holds of the hops that are read.
use Rattle.std.proofs.Common.{◌≡◌, ℕ, suc, ◌+◌, ◌-◌, ◌<◌, ◌≤◌, Bool, true, false, cond, List, [], ◌∷◌, length, take, drop, Option, Some, None, Result, Ok, Err, refl, sym, ap, subst, ◌∙◌, arith, All, inl, inr, nat_eq, ne_eqb, eq-eqb, option_map}
use Rattle.std.specs.Prelude.{codes}
use Rattle.std.specs.List.{position, list_any}
use Rattle.std.specs.Str.{bytes_eq}
use Rattle.std.proofs.lemmas.Bool.{or_from, cases_eq, cases_lt, eqb-true, false_from_ne_true, false≢true}
use Rattle.std.proofs.lemmas.List.Quantifiers.{position-Some}
use Rattle.std.proofs.lemmas.List.Elements.{All-nil, All-cons}
use Rattle.std.proofs.lemmas.Option.{none-some, same_Some}
use Rattle.mls_label.specs.declared.label.Label.{Label}
use Rattle.mls_range.specs.Computed.{label_of_text}
use Rattle.script_lines.specs.declared.stop.ScriptKind.TheVariants as Kind
use Rattle.script_lines.specs.declared.stop.LineStop.{LineStop}
use Rattle.script_lines.specs.Word.{LineWord}
use Rattle.script_lines.specs.Stop.{fault, and_next}
use Rattle.label_commands.specs.declared.flow_lines.hop.Hop.{Hop}
use Rattle.label_commands.specs.flow_lines.Hop.{is_send, is_receive, node_of, IsRoute}
use Rattle.label_commands.specs.flow_lines.HopText.{behind_prefix, comma_parts, are_names, NamedHop, send_of_parts, forward_of_parts, receive_of_parts, node_number, numbered, read_hop}
use Rattle.label_commands.specs.flow_lines.Flow.{next_hop, read_hops, read_route}
use Rattle.label_commands.proofs.flow_lines.Stops.{went, same_ok, not_ok}
use Rattle.label_commands.proofs.flow_lines.HopParts.{sends, forwards, receives}

-- ---- one hop

-- the hop is of a named node, and stands where it may
record Fits (nodes : List (List ℕ)) (first last : Bool) (hop : Hop) : Type 0 where
  known : node_of hop < length nodes
  sends : is_send hop ≡ true → first ≡ true
  receives : is_receive hop ≡ true → last ≡ true

number_found : (nodes : List (List ℕ)) (place : ℕ) (fits : Bool) (name : List ℕ) (number : ℕ) → node_number nodes place fits name ≡ Ok number → (number < length nodes) × (fits ≡ true)
number_found nodes place fits name number e = by_place (position (bytes_eq name) nodes) refl e where
  by_test : (n : ℕ) (b : Bool) → ◌≡◌ {A = Result ℕ LineStop} (cond b (Ok n) (Err (fault place Kind.HopOrder))) (Ok number) → (n ≡ number) × (b ≡ true)
  by_test n true e = (same_ok n number e, refl)
  by_test n false e = absurd (not_ok number _ e)

  by_place : (found : Option ℕ) → position (bytes_eq name) nodes ≡ found
      → ◌≡◌ {A = Result ℕ LineStop} (elim found as (λ _. Result ℕ LineStop) [ None ↦ Err (fault place Kind.UnknownNode) | Some n ↦ cond fits (Ok n) (Err (fault place Kind.HopOrder)) ]) (Ok number)
      → (number < length nodes) × (fits ≡ true)
  by_place None is e = absurd (not_ok number _ e)
  by_place (Some n) is e =
      let t = by_test n fits e in
      let within = position-Some (bytes_eq name) nodes n name is in
      (omega (arith, within.0, t.0), t.1)

-- the text said so, and the node was found
record Numbered (nodes : List (List ℕ)) (fits : Bool) (said : Option NamedHop) (hop : Hop) : Type 0 where
  named : NamedHop
  is : said ≡ Some named
  number : ℕ
  known : number < length nodes
  fit : fits ≡ true
  hop_is : named.1 number ≡ hop

number_read : (nodes : List (List ℕ)) (place : ℕ) (fits : Bool) (said : Option NamedHop) (hop : Hop) → numbered nodes place fits said ≡ Ok hop → Numbered nodes fits said hop
number_read nodes place fits None hop e = absurd (not_ok hop _ e)
number_read nodes place fits (Some named) hop e =
    let w = went (node_number nodes place fits named.0) (λ n. Ok (named.1 n)) hop e in
    let f = number_found nodes place fits named.0 w.0 w.1 in
    record { named = named; is = refl; number = w.0; known = f.0; fit = f.1; hop_is = same_ok (named.1 w.0) hop w.2 }

-- what kind of hop it is, at whatever number
abbrev IsOfKind : Bool → Bool → NamedHop → Type 0
IsOfKind send receive named = (number : ℕ) → (is_send (named.1 number) ≡ send) × (is_receive (named.1 number) ≡ receive) × (node_of (named.1 number) ≡ number)

send_kind : (parts : List (List ℕ)) (named : NamedHop) → send_of_parts parts ≡ Some named → IsOfKind true false named
send_kind [] named e = absurd (none-some named e)
send_kind (a ∷ []) named e = absurd (none-some named e)
send_kind (a ∷ b ∷ []) named e = absurd (none-some named e)
send_kind (a ∷ b ∷ c ∷ []) named e = absurd (none-some named e)
send_kind (a ∷ b ∷ c ∷ part ∷ parts) named e = by_cases (are_names (a ∷ b ∷ c ∷ [])) (label_of_text _) e where
  by_cases : (t : Bool) (label : Option Label) → cond t (option_map (sends a b c) label) None ≡ Some named → IsOfKind true false named
  by_cases false label e = absurd (none-some named e)
  by_cases true None e = absurd (none-some named e)
  by_cases true (Some label) e = subst (IsOfKind true false) (same_Some (sends a b c label) named e) (λ n. (refl, refl, refl))

forward_kind : (parts : List (List ℕ)) (named : NamedHop) → forward_of_parts parts ≡ Some named → IsOfKind false false named
forward_kind [] named e = absurd (none-some named e)
forward_kind (a ∷ []) named e = absurd (none-some named e)
forward_kind (a ∷ b ∷ []) named e = absurd (none-some named e)
forward_kind (a ∷ b ∷ c ∷ []) named e = absurd (none-some named e)
forward_kind (a ∷ b ∷ c ∷ d ∷ []) named e = by_cases (are_names (a ∷ b ∷ c ∷ d ∷ [])) e where
  by_cases : (t : Bool) → cond t (Some (forwards a b c d)) None ≡ Some named → IsOfKind false false named
  by_cases false e = absurd (none-some named e)
  by_cases true e = subst (IsOfKind false false) (same_Some (forwards a b c d) named e) (λ n. (refl, refl, refl))
forward_kind (a ∷ b ∷ c ∷ d ∷ next ∷ parts) named e = absurd (none-some named e)

receive_kind : (parts : List (List ℕ)) (named : NamedHop) → receive_of_parts parts ≡ Some named → IsOfKind false true named
receive_kind [] named e = absurd (none-some named e)
receive_kind (a ∷ []) named e = absurd (none-some named e)
receive_kind (a ∷ b ∷ []) named e = by_cases (are_names (a ∷ b ∷ [])) e where
  by_cases : (t : Bool) → cond t (Some (receives a b)) None ≡ Some named → IsOfKind false true named
  by_cases false e = absurd (none-some named e)
  by_cases true e = subst (IsOfKind false true) (same_Some (receives a b) named e) (λ n. (refl, refl, refl))
receive_kind (a ∷ b ∷ next ∷ parts) named e = absurd (none-some named e)

module _ (nodes : List (List ℕ)) (first last : Bool) (hop : Hop) where
  fits_by : (fits send receive : Bool) (said : Option NamedHop) (n : Numbered nodes fits said hop) → IsOfKind send receive n.named
      → (send ≡ true → first ≡ true) → (receive ≡ true → last ≡ true) → Fits nodes first last hop
  fits_by fits send receive said n kind sending receiving =
      let k = kind n.number in record {
        known = omega (arith, n.known, k.2, ap node_of n.hop_is);
        sends = λ is. sending (sym k.0 ∙ ap is_send n.hop_is ∙ is);
        receives = λ is. receiving (sym k.1 ∙ ap is_receive n.hop_is ∙ is);
      }

  hop_fits : (place : ℕ) (send forward receive : Option (List ℕ))
      → ◌≡◌ {A = Result Hop LineStop} (elim send as (λ _. Result Hop LineStop) [
        | Some text ↦ numbered nodes place first (send_of_parts (comma_parts text))
        | None ↦ elim forward as (λ _. Result Hop LineStop) [
          | Some text ↦ numbered nodes place true (forward_of_parts (comma_parts text))
          | None ↦ elim receive as (λ _. Result Hop LineStop) [
            | Some text ↦ numbered nodes place last (receive_of_parts (comma_parts text))
            | None ↦ Err (fault place Kind.Word)
          ]
        ]
      ]) (Ok hop) → Fits nodes first last hop
  hop_fits place (Some text) forward receive e =
      let n = number_read nodes place first (send_of_parts (comma_parts text)) hop e in
      fits_by first true false _ n (send_kind (comma_parts text) n.named n.is) (λ is. n.fit) (λ is. absurd (false≢true is))
  hop_fits place None (Some text) receive e =
      let n = number_read nodes place true (forward_of_parts (comma_parts text)) hop e in
      fits_by true false false _ n (forward_kind (comma_parts text) n.named n.is) (λ is. absurd (false≢true is)) (λ is. absurd (false≢true is))
  hop_fits place None None (Some text) e =
      let n = number_read nodes place last (receive_of_parts (comma_parts text)) hop e in
      fits_by last false true _ n (receive_kind (comma_parts text) n.named n.is) (λ is. absurd (false≢true is)) (λ is. n.fit)
  hop_fits place None None None e = absurd (not_ok hop _ e)

  read_fits : (word : LineWord) → read_hop nodes first last word ≡ Ok hop → Fits nodes first last hop
  unfolding read_hop
  read_fits word e =
      hop_fits word.at (behind_prefix (codes "send:") word.text) (behind_prefix (codes "forward:") word.text) (behind_prefix (codes "receive:") word.text) e

next_fits : (nodes : List (List ℕ)) (count : ℕ) (last : Bool) (word : LineWord) (hop : Hop) → count ≤ 16 → next_hop nodes count last word ≡ Ok hop
    → (count < 16) × Fits nodes (nat_eq count 0) last hop
next_fits nodes count last word hop le e = elim (cases_eq count 16) [
  | inl same ↦ absurd (not_ok hop _ (rw (eq-eqb count 16 same) at e))
  | inr other ↦ (omega (arith, other), read_fits nodes (nat_eq count 0) last hop word (rw (ne_eqb count 16 other) at e))
]

-- ---- all hops

record Walked (nodes : List (List ℕ)) (count : ℕ) (words : List LineWord) (hops : List Hop) : Type 0 where
  long : length hops ≡ length words
  few : 0 < length words → count + length words ≤ 16
  known : All (λ hop. node_of hop < length nodes) hops
  sends : 0 < count → list_any is_send hops ≡ false
  behind : list_any is_send (drop 1 hops) ≡ false
  receives : list_any is_receive (take (length hops - 1) hops) ≡ false

last_receives : (hop : Hop) (hops : List Hop) → list_any is_receive (take (length hops - 1) hops) ≡ false → (0 < length hops → is_receive hop ≡ false)
    → list_any is_receive (take (length (hop ∷ hops) - 1) (hop ∷ hops)) ≡ false
last_receives hop [] rest front = refl
last_receives hop (next ∷ hops) rest front =
    let one : suc (suc (length hops)) - 1 ≡ suc (suc (length hops) - 1) = omega arith in
    ap (λ n. list_any is_receive (take n (hop ∷ next ∷ hops))) one
    ∙ or_from (is_receive hop) (list_any is_receive (take (suc (length hops) - 1) (next ∷ hops))) (front (omega arith)) rest

one_walked : (nodes : List (List ℕ)) (count : ℕ) (word : LineWord) (words : List LineWord) (hop : Hop) (hops : List Hop) → count < 16
    → Fits nodes (nat_eq count 0) (nat_eq (length words) 0) hop → Walked nodes (count + 1) words hops → Walked nodes count (word ∷ words) (hop ∷ hops)
one_walked nodes count word words hop hops lt fits w =
    let no_send : 0 < count → is_send hop ≡ false = λ some.
    false_from_ne_true (is_send hop) (λ is. let none = eqb-true count 0 (fits.sends is) in omega (arith, some, none)) in
    let no_receive : 0 < length hops → is_receive hop ≡ false = λ some.
    false_from_ne_true (is_receive hop) (λ is. let none = eqb-true (length words) 0 (fits.receives is) in omega (arith, some, none, w.long)) in
    record {
      long = ap suc w.long;
      few = λ some. elim (cases_lt 0 (length words)) [ inl more ↦ omega (arith, w.few more) | inr none ↦ omega (arith, lt) ];
      known = All-cons (λ h. node_of h < length nodes) hop hops fits.known w.known;
      sends = λ some. or_from (is_send hop) (list_any is_send hops) (no_send some) (w.sends (omega arith));
      behind = w.sends (omega arith);
      receives = last_receives hop hops w.receives no_receive;
    }

walked : (nodes : List (List ℕ)) (count : ℕ) (words : List LineWord) (hops : List Hop) → count ≤ 16 → read_hops nodes count words ≡ Ok hops → Walked nodes count words hops
walked nodes count [] hops le e =
    subst (Walked nodes count []) (same_ok [] hops e)
    (record { long = refl; few = λ some. absurd (omega arith); known = All-nil (λ h. node_of h < length nodes); sends = λ some. refl; behind = refl; receives = refl })
walked nodes count (word ∷ words) hops le e =
    let last = nat_eq (length words) 0 in
    let rest = read_hops nodes (count + 1) words in
    let one = went (next_hop nodes count last word) (λ h. and_next rest (λ hs. Ok (h ∷ hs))) hops e in
    let more = went rest (λ hs. Ok (one.0 ∷ hs)) hops one.2 in
    let fits = next_fits nodes count last word one.0 le one.1 in
    subst (Walked nodes count (word ∷ words)) (same_ok (one.0 ∷ more.0) hops more.2)
    (one_walked nodes count word words one.0 more.0 fits.0 fits.1 (walked nodes (count + 1) words more.0 (omega (arith, fits.0)) more.1))

pub hops_are_route : (nodes : List (List ℕ)) (words : List LineWord) (hops : List Hop) → 0 < length words → read_hops nodes 0 words ≡ Ok hops → IsRoute hops
hops_are_route nodes words hops some e =
    let w = walked nodes 0 words hops (omega arith) e in record {
      some = omega (arith, w.long);
      few = omega (arith, w.long, w.few some);
      ordered = record { sends = w.behind; receives = w.receives };
    }

pub read_route_is : (nodes : List (List ℕ)) (end : ℕ) (words : List LineWord) (hops : List Hop) → read_route nodes end words ≡ Ok hops → IsRoute hops
read_route_is nodes end [] hops e = absurd (not_ok hops _ e)
read_route_is nodes end (word ∷ words) hops e = hops_are_route nodes (word ∷ words) hops (omega arith) e

pub read_route_known : (nodes : List (List ℕ)) (end : ℕ) (words : List LineWord) (hops : List Hop) → read_route nodes end words ≡ Ok hops
    → All (λ hop. node_of hop < length nodes) hops
read_route_known nodes end [] hops e = absurd (not_ok hops _ e)
read_route_known nodes end (word ∷ words) hops e = (walked nodes 0 (word ∷ words) hops (omega arith) e).known
