-- What pairs give for a number.
use Rattle.std.proofs.Common.{◌≡◌, ℕ, zero, suc, ◌+◌, ◌<◌, ◌≤◌, cond, List, [], ◌∷◌, length, get_or, drop, Some, None, refl, sym, ap, subst, ◌∙◌, arith}
use Rattle.std.specs.List.{AllWithin}
use Rattle.std.specs.List.Sorted.{IsNonDecreasingBy}
use Rattle.std.proofs.lemmas.List.Elements.{All-rest}
use Rattle.std.proofs.lemmas.Bool.{eq-eqb, ne_eqb}
use Rattle.doi_table.specs.Pairs.{number_by}
use Rattle.doi_table.specs.Definition.{AreBelow}
use Rattle.doi_table.specs.inside.Sorted.{AreRising}

pub number_here : (p : ℕ × ℕ) (pairs : List (ℕ × ℕ)) (n : ℕ) → n ≡ p.0 → number_by (p ∷ pairs) n ≡ Some p.1
number_here p pairs n e = ap (λ b. cond b (Some p.1) (number_by pairs n)) (eq-eqb n p.0 e)

pub number_behind : (p : ℕ × ℕ) (pairs : List (ℕ × ℕ)) (n : ℕ) → (n ≡ p.0 → ⊥) → number_by (p ∷ pairs) n ≡ number_by pairs n
number_behind p pairs n ne = ap (λ b. cond b (Some p.1) (number_by pairs n)) (ne_eqb n p.0 ne)

-- pairs that rise from a higher number on have nothing for a lower one
pub number_below : (low n : ℕ) (pairs : List (ℕ × ℕ)) → AreRising low pairs → n < low → number_by pairs n ≡ None
number_below low n [] rising lt = refl
number_below low n (p ∷ pairs) rising lt =
    number_behind p pairs n (λ e. omega (arith, rising.0)) ∙ number_below (p.0 + 1) n pairs rising.1 (omega (arith, rising.0))

pub rising_less : (low lower : ℕ) (pairs : List (ℕ × ℕ)) → AreRising low pairs → lower ≤ low → AreRising lower pairs
rising_less low lower [] rising le = tt
rising_less low lower (p ∷ pairs) rising le = (omega (arith, rising.0), rising.1)

-- ---- a sorted list from a place on

pub rising_from : (low n place : ℕ) (pairs : List (ℕ × ℕ)) → AreRising low pairs → place ≤ length pairs → AllWithin (λ (p : ℕ × ℕ). n ≤ p.0) pairs place (length pairs) → AreRising n (drop place pairs)
rising_from low n zero [] rising le others = tt
rising_from low n zero (p ∷ pairs) rising le others =
    (others 0 p (omega arith) (omega arith), rising.1)
rising_from low n (suc place) [] rising le others = tt
rising_from low n (suc place) (p ∷ pairs) rising le others =
    rising_from (p.0 + 1) n place pairs rising.1 (omega (arith, le)) (λ k d lo hi. others (suc k) d (omega arith) (omega arith))

pub number_from : (n m place : ℕ) (pairs : List (ℕ × ℕ)) → place ≤ length pairs → AllWithin (λ (p : ℕ × ℕ). p.0 < n) pairs 0 place → n ≤ m → number_by pairs m ≡ number_by (drop place pairs) m
number_from n m zero pairs le below at = refl
number_from n m (suc place) [] le below at = refl
number_from n m (suc place) (p ∷ pairs) le below at =
    let first : p.0 < n = below 0 p (omega arith) (omega arith) in
    number_behind p pairs m (λ e. omega arith) ∙ number_from n m place pairs (omega (arith, le)) (λ k d lo hi. below (suc k) d (omega arith) (omega arith)) at

-- ---- the first pair of a list that rises from c on

pub none_at : (c : ℕ) (pairs : List (ℕ × ℕ)) (d : ℕ × ℕ) → AreRising c pairs → 1 ≤ length pairs → ((get_or pairs 0 d).0 ≡ c → ⊥) → number_by pairs c ≡ None
none_at c [] d rising some ne = refl
none_at c (p ∷ pairs) d rising some ne =
    number_behind p pairs c (λ e. ne (sym e)) ∙ number_below (p.0 + 1) c pairs rising.1 (omega (arith, rising.0))

pub some_at : (c : ℕ) (pairs : List (ℕ × ℕ)) (d : ℕ × ℕ) → 1 ≤ length pairs → (get_or pairs 0 d).0 ≡ c → number_by pairs c ≡ Some (get_or pairs 0 d).1
some_at c [] d some e = absurd (omega arith)
some_at c (p ∷ pairs) d some e = number_here p pairs c (sym e)

-- the first numbers rise, place by place
rising_at : (low : ℕ) (pairs : List (ℕ × ℕ)) (j : ℕ) (d : ℕ × ℕ) → AreRising low pairs → j < length pairs → low ≤ (get_or pairs j d).0
rising_at low [] j d rising lt = absurd (omega arith)
rising_at low (p ∷ pairs) zero d rising lt = rising.0
rising_at low (p ∷ pairs) (suc j) d rising lt =
    omega (arith, rising.0, rising_at (p.0 + 1) pairs j d rising.1 (omega (arith, lt)))

pub firsts_rise : (low : ℕ) (pairs : List (ℕ × ℕ)) → AreRising low pairs → IsNonDecreasingBy (λ (p : ℕ × ℕ). p.0) pairs
firsts_rise low [] rising i j d le lt = absurd (omega arith)
firsts_rise low (p ∷ pairs) rising zero zero d le lt = omega arith
firsts_rise low (p ∷ pairs) rising zero (suc j) d le lt = omega (arith, rising_at (p.0 + 1) pairs j d rising.1 (omega (arith, lt)))
firsts_rise low (p ∷ pairs) rising (suc i) zero d le lt = absurd (omega arith)
firsts_rise low (p ∷ pairs) rising (suc i) (suc j) d le lt = firsts_rise (p.0 + 1) pairs rising.1 i j d (omega arith) (omega (arith, lt))

-- ---- the pairs behind the first

pub rising_rest : (c d : ℕ) (pairs behind : List (ℕ × ℕ)) → pairs ≡ (c, d) ∷ behind → AreRising c pairs → AreRising (c + 1) behind
rising_rest c d pairs behind e rising = (subst (AreRising c) e rising).1

pub below_rest : (bound c d : ℕ) (pairs behind : List (ℕ × ℕ)) → pairs ≡ (c, d) ∷ behind → AreBelow bound pairs → AreBelow bound behind
below_rest bound c d pairs behind e below = All-rest (λ (p : ℕ × ℕ). (p.0 < bound) × (p.1 < bound)) (c, d) behind pairs e below
