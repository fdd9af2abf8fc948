-- The parts of a text around the first of some octets.
use Rattle.std.proofs.Common.{◌≡◌, ℕ, ◌+◌, ◌-◌, ◌<◌, ◌≤◌, Bool, true, false, cond, not, List, [], ◌∷◌, ◌++◌, length, take, drop, append_assoc, length-append, Some, None, refl, sym, ap, ◌∙◌, arith}
use Rattle.std.specs.Prelude.{◌==◌}
use Rattle.std.specs.List.{All, slice_split, position, position_or_len, onto_first, before_first, after_first}
use Rattle.std.proofs.lemmas.Bool.{ltb-true, ltb-false}
use Rattle.std.proofs.lemmas.Bool.Decides.{Decides-eqb}
use Rattle.std.proofs.lemmas.List.{take_rest, take_all, drop_all}
use Rattle.std.proofs.lemmas.List.Elements.{All-head, All-tail}
use Rattle.std.proofs.lemmas.List.Splits.{slice_split_first}
use Rattle.std.proofs.lemmas.Option.{none-some}
use Rattle.std.proofs.Math.Seq.{take-append_seam, drop-append_seam}
use Rattle.std.proofs.NetLemmas.Options.{cond_some}

-- a text without such an octet is one part
split_none : (p : ℕ → Bool) (xs : List ℕ) → length xs ≤ position_or_len p xs → slice_split p xs ≡ xs ∷ []
split_none p [] h = refl
split_none p (x ∷ xs) h =
    elim (p x) as (λ b. length (x ∷ xs) ≤ cond (not b) (1 + position_or_len p xs) 0 → cond b ([] ∷ slice_split p xs) (onto_first x (slice_split p xs)) ≡ (x ∷ xs) ∷ []) [
      | true ↦ λ k. absurd (omega (arith, k))
      | false ↦ λ k. ap (onto_first x) (split_none p xs (omega (arith, k)))
    ] h

no_place : (b : Bool) (k : ℕ) → cond b (Some k) None ≡ None → b ≡ false
no_place true k e = absurd (none-some k (sym e))
no_place false k e = refl

pub nowhere : (p : ℕ → Bool) (text : List ℕ) → position p text ≡ None → length text ≤ position_or_len p text
nowhere p text e = ltb-false (position_or_len p text) (length text) (no_place _ (position_or_len p text) e)

pub split_nowhere : (p : ℕ → Bool) (text : List ℕ) → position p text ≡ None → slice_split p text ≡ text ∷ []
split_nowhere p text e = split_none p text (nowhere p text e)

pub place_is : (p : ℕ → Bool) (text : List ℕ) (i : ℕ) → position p text ≡ Some i → (position_or_len p text < length text) × (position_or_len p text ≡ i)
place_is p text i e =
    let found = cond_some _ (position_or_len p text) i e in
    (ltb-true (position_or_len p text) (length text) found.0, found.1)

pub split_at_place : (p : ℕ → Bool) (text : List ℕ) (i : ℕ) → position p text ≡ Some i → slice_split p text ≡ take i text ∷ slice_split p (drop (i + 1) text)
split_at_place p text i e =
    let found = place_is p text i e in
    slice_split_first p text 0 found.0 ∙ ap (λ k. take k text ∷ slice_split p (drop (k + 1) text)) found.1

-- the first part, what is behind it, and their lengths
pub split_here : (p : ℕ → Bool) (text : List ℕ) (i : ℕ) → position p text ≡ Some i → slice_split p text ≡ take i text ∷ slice_split p (take (length text - (i + 1)) (drop (i + 1) text))
split_here p text i e = split_at_place p text i e ∙ ap (λ t. take i text ∷ slice_split p t) (sym (take_rest text (i + 1)))

pub front_here : (p : ℕ → Bool) (text : List ℕ) (i : ℕ) → position p text ≡ Some i → take i text ≡ before_first p text
front_here p text i e = ap (λ k. take k text) (sym (place_is p text i e).1)

pub behind_here : (p : ℕ → Bool) (text : List ℕ) (i : ℕ) → position p text ≡ Some i → take (length text - (i + 1)) (drop (i + 1) text) ≡ after_first p text
behind_here p text i e = take_rest text (i + 1) ∙ ap (λ k. drop (k + 1) text) (sym (place_is p text i e).1)

pub front_nowhere : (p : ℕ → Bool) (text : List ℕ) → position p text ≡ None → text ≡ before_first p text
front_nowhere p text e = sym (take_all (position_or_len p text) text (nowhere p text e))

pub behind_nowhere : (p : ℕ → Bool) (text rest : List ℕ) → position p text ≡ None → rest ≡ [] → rest ≡ after_first p text
behind_nowhere p text rest e none = none ∙ sym (drop_all (position_or_len p text + 1) text (let le = nowhere p text e in omega (arith, le)))

-- ---- a text without some octet, in front of one

self : (b : ℕ) → (b == b) ≡ true
self b = (Decides-eqb b b).1 refl

module _ (b : ℕ) where
  first_at : (xs ys : List ℕ) → All (λ c. (c == b) ≡ false) xs → position_or_len (λ c. c == b) (xs ++ b ∷ ys) ≡ length xs
  first_at [] ys none = rw (self b) refl
  first_at (x ∷ xs) ys none =
      let rest = first_at xs ys (All-tail (λ c. (c == b) ≡ false) x xs none) in
      rw (All-head (λ c. (c == b) ≡ false) x xs none) (omega (arith, rest))

  pub before_it : (xs ys : List ℕ) → All (λ c. (c == b) ≡ false) xs → before_first (λ c. c == b) (xs ++ b ∷ ys) ≡ xs
  before_it xs ys none = ap (λ k. take k (xs ++ b ∷ ys)) (first_at xs ys none) ∙ take-append_seam xs (b ∷ ys)

  pub behind_it : (xs ys : List ℕ) → All (λ c. (c == b) ≡ false) xs → after_first (λ c. c == b) (xs ++ b ∷ ys) ≡ ys
  behind_it xs ys none =
      ap (λ k. drop (k + 1) (xs ++ b ∷ ys)) (first_at xs ys none)
      ∙ ap (drop (length xs + 1)) (sym (append_assoc xs (b ∷ []) ys))
      ∙ ap (λ k. drop k ((xs ++ b ∷ []) ++ ys)) (sym (length-append xs (b ∷ [])))
      ∙ drop-append_seam (xs ++ b ∷ []) ys
