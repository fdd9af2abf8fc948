-- Parts of a text.
use Rattle.std.proofs.Common.{◌≡◌, ℕ, ◌+◌, ◌<◌, ◌≤◌, Bool, true, false, cond, not, List, [], ◌∷◌, ◌++◌, length, take, drop, Some, None, refl, sym, ap, ◌∙◌, arith, All}
use Rattle.std.specs.Prelude.{◌==◌}
use Rattle.std.specs.List.{slice_split, position, position_or_len, onto_first, before_first, after_first}
use Rattle.std.proofs.lemmas.Bool.{ltb-true, ltb-false}
use Rattle.std.proofs.lemmas.List.Elements.{All-head, All-tail}
use Rattle.std.proofs.lemmas.List.Splits.{slice_split_first}
use Rattle.std.proofs.Math.Seq.{take-append_seam, drop-append-add}
use Rattle.std.proofs.lemmas.Option.{none-some, cond_some}

pub split_at_place : (octet : ℕ) (text : List ℕ) (i : ℕ) → position (λ c. c == octet) text ≡ Some i
    → (i < length text) × (slice_split (λ c. c == octet) text ≡ take i text ∷ slice_split (λ c. c == octet) (drop (i + 1) text))
split_at_place octet text i e =
    let at = position_or_len (λ c. c == octet) text in
    let found = cond_some _ at i e in
    let within = ltb-true at (length text) found.0 in
    (omega (arith, within, found.1), slice_split_first (λ c. c == octet) text 0 within ∙ ap (λ k. take k text ∷ slice_split (λ c. c == octet) (drop (k + 1) text)) found.1)

split_none : (p : ℕ → Bool) (xs : List ℕ) → length xs ≤ position_or_len p xs → slice_split p xs ≡ xs ∷ []
split_none p [] h = refl
split_none p (x ∷ xs) h =
    elim (p x) as (λ b. length (x ∷ xs) ≤ cond (not b) (1 + position_or_len p xs) 0 → cond b ([] ∷ slice_split p xs) (onto_first x (slice_split p xs)) ≡ (x ∷ xs) ∷ []) [
      | true ↦ λ k. absurd (omega (arith, k))
      | false ↦ λ k. ap (onto_first x) (split_none p xs (omega (arith, k)))
    ] h

no_place : (b : Bool) (k : ℕ) → cond b (Some k) None ≡ None → b ≡ false
no_place true k e = absurd (none-some k (sym e))
no_place false k e = refl

pub split_nowhere : (octet : ℕ) (text : List ℕ) → position (λ c. c == octet) text ≡ None → slice_split (λ c. c == octet) text ≡ text ∷ []
split_nowhere octet text e =
    let at = position_or_len (λ c. c == octet) text in
    split_none (λ c. c == octet) text (ltb-false at (length text) (no_place _ at e))

-- no octet of a text passes a test
abbrev pub Lacks : (ℕ → Bool) → List ℕ → Type 0
Lacks test text = All (λ c. test c ≡ false) text

first_at : (p : ℕ → Bool) (front : List ℕ) (c : ℕ) (back : List ℕ) → Lacks p front → p c ≡ true → position_or_len p (front ++ c ∷ back) ≡ length front
first_at p [] c back fails passes = rw passes refl
first_at p (d ∷ front) c back fails passes =
    let first = All-head (λ x. p x ≡ false) d front fails in
    let more = first_at p front c back (All-tail (λ x. p x ≡ false) d front fails) passes in rw first (omega (arith, more))

-- what stands around the first octet that passes
pub before_at : (p : ℕ → Bool) (front : List ℕ) (c : ℕ) (back : List ℕ) → Lacks p front → p c ≡ true → before_first p (front ++ c ∷ back) ≡ front
before_at p front c back fails passes =
    ap (λ n. take n (front ++ c ∷ back)) (first_at p front c back fails passes) ∙ take-append_seam front (c ∷ back)

pub after_at : (p : ℕ → Bool) (front : List ℕ) (c : ℕ) (back : List ℕ) → Lacks p front → p c ≡ true → after_first p (front ++ c ∷ back) ≡ back
after_at p front c back fails passes =
    ap (λ n. drop (n + 1) (front ++ c ∷ back)) (first_at p front c back fails passes) ∙ drop-append-add front (c ∷ back) 1
