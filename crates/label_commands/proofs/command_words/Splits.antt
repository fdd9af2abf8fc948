-- The parts of a text around its first comma.
use Rattle.std.proofs.Common.{◌≡◌, ℕ, ◌+◌, ◌<◌, ◌≤◌, Bool, true, false, cond, not, List, [], ◌∷◌, ◌++◌, length, Option, Some, None, option_map, refl, sym, ap, ◌∙◌, arith}
use Rattle.std.specs.Prelude.{◌==◌, MatchOption, IfSome}
use Rattle.std.specs.List.{slice_split, onto_first, position_or_len, before_first, after_first}
use Rattle.std.proofs.lemmas.List.{length-drop}
use Rattle.std.proofs.lemmas.List.Splits.{slice_split_first}
use Rattle.std.proofs.lemmas.Str.Pattern.{IsSplitOnceResult, split_once_first}
use denote.Ref.{Bor}

-- a text without such an octet is one part
pub split_none : (p : ℕ → Bool) (xs : List ℕ) → length xs ≤ position_or_len p xs → slice_split p xs ≡ xs ∷ []
split_none p [] h = refl
split_none p (x ∷ xs) h =
    elim (p x) as (λ b. length (x ∷ xs) ≤ cond (not b) (1 + position_or_len p xs) 0 → cond b ([] ∷ slice_split p xs) (onto_first x (slice_split p xs)) ≡ (x ∷ xs) ∷ []) [
      | true ↦ λ k. absurd (omega (arith, k))
      | false ↦ λ k. ap (onto_first x) (split_none p xs (omega (arith, k)))
    ] h

-- numbers in front of those that may come
abbrev pub in_front : List ℕ → Option (List ℕ) → Option (List ℕ)
in_front front more = option_map (λ behind. front ++ behind) more

-- the parts of a text by where its first comma stands
parts_by : (text : List ℕ) (r : Option (Bor (List ℕ) × Bor (List ℕ)))
    → MatchOption r (position_or_len (λ c. c == 44) text ≡ length text)
    (λ x. (position_or_len (λ c. c == 44) text < length text) × (x.0.now ≡ before_first (λ c. c == 44) text) × (x.1.now ≡ after_first (λ c. c == 44) text))
    → MatchOption r (slice_split (λ c. c == 44) text ≡ text ∷ []) (λ x. slice_split (λ c. c == 44) text ≡ x.0.now ∷ slice_split (λ c. c == 44) x.1.now)
parts_by text None none = split_none (λ c. c == 44) text (omega (arith, none))
parts_by text (Some x) found =
    slice_split_first (λ c. c == 44) text 0 found.0
    ∙ ap (λ front. front ∷ slice_split (λ c. c == 44) (after_first (λ c. c == 44) text)) (sym found.1)
    ∙ ap (λ back. x.0.now ∷ slice_split (λ c. c == 44) back) (sym found.2)

pub parts_at_comma : (text : List ℕ) (r : Option (Bor (List ℕ) × Bor (List ℕ))) → IsSplitOnceResult 44 text r
    → MatchOption r (slice_split (λ c. c == 44) text ≡ text ∷ []) (λ x. slice_split (λ c. c == 44) text ≡ x.0.now ∷ slice_split (λ c. c == 44) x.1.now)
parts_at_comma text r is = parts_by text r (split_once_first 44 text r is (omega arith))

shorter_by : (text : List ℕ) (r : Option (Bor (List ℕ) × Bor (List ℕ)))
    → MatchOption r (position_or_len (λ c. c == 44) text ≡ length text)
    (λ x. (position_or_len (λ c. c == 44) text < length text) × (x.0.now ≡ before_first (λ c. c == 44) text) × (x.1.now ≡ after_first (λ c. c == 44) text))
    → IfSome r (λ x. length x.1.now < length text)
shorter_by text None none = tt
shorter_by text (Some x) found = omega (arith, found.0, ap length found.2, length-drop (position_or_len (λ c. c == 44) text + 1) text)

-- what stands behind the comma is shorter
pub behind_comma : (text : List ℕ) (r : Option (Bor (List ℕ) × Bor (List ℕ))) → IsSplitOnceResult 44 text r → IfSome r (λ x. length x.1.now < length text)
behind_comma text r is = shorter_by text r (split_once_first 44 text r is (omega arith))
