-- Pairs sorted by their first numbers: they rise just where those numbers are distinct, and they give the same.
use Rattle.std.proofs.Common.{◌≡◌, ℕ, zero, suc, ◌+◌, ◌<◌, ◌≤◌, Bool, true, false, ◌&&◌, ◌||◌, not, ltb, eqb, List, [], ◌∷◌, length, get_or, Option, Some, None, IsPermutation, refl, sym, ap, subst, ◌∙◌, arith, inl, inr}
use Rattle.std.specs.Cmp.{nat_eq_equiv}
use Rattle.std.specs.List.{AllAdjacentBelow, AllByRecursion, IsDistinct}
use Rattle.std.specs.List.Sorted.{IsNonDecreasingBy}
use Rattle.std.proofs.lemmas.Bool.{cases_lt, cases_eq, ltb-true, ltb-false, eq-eqb, ne_eqb, or_parts, and_parts, false≢true}
use Rattle.std.proofs.lemmas.List.Sorted.{IsPermutation-sym, IsPermutation-map, Contains-permutation}
use Rattle.std.proofs.lemmas.Map.Keys.{IsDistinct-IsPermutation}
use Rattle.std.proofs.lemmas.Map.Views.{Contains-from_lookup, lookup-from_Contains, exact_unsigned_eq}
use Rattle.mls_label.specs.Cats.{has}
use Rattle.doi_table.specs.Pairs.{number_by, firsts, are_distinct}
use Rattle.doi_table.specs.inside.Sorted.{AreRising, IsSorted}

-- ---- distinct numbers

none_equal : (n : ℕ) (ns : List ℕ) → has ns n ≡ false → AllByRecursion (λ m. eqb n m ≡ false) ns
none_equal n [] h = tt
none_equal n (m ∷ ns) h = let p = or_parts (eqb n m) (has ns n) h in (p.0, none_equal n ns p.1)

has_none : (n : ℕ) (ns : List ℕ) → AllByRecursion (λ m. eqb n m ≡ false) ns → has ns n ≡ false
has_none n [] h = refl
has_none n (m ∷ ns) h = ap (λ b. b || has ns n) h.0 ∙ has_none n ns h.1

pub distinct_is : (ns : List ℕ) → are_distinct ns ≡ true → IsDistinct eqb ns
unfolding IsDistinct
distinct_is [] h = tt
distinct_is (n ∷ ns) h =
    let p = and_parts (not (has ns n)) (are_distinct ns) h in
    (none_equal n ns (not_true (has ns n) p.0), distinct_is ns p.1)
  where
    not_true : (b : Bool) → not b ≡ true → b ≡ false
    not_true true e = absurd (false≢true e)
    not_true false e = refl

pub is_distinct : (ns : List ℕ) → IsDistinct eqb ns → are_distinct ns ≡ true
unfolding IsDistinct
is_distinct [] h = refl
is_distinct (n ∷ ns) h = ap (λ b. not b && are_distinct ns) (has_none n ns h.0) ∙ is_distinct ns h.1

eqb_flips : (x y : ℕ) → eqb x y ≡ eqb y x
eqb_flips x y =
    elim (cases_eq x y) [
      | inl e ↦ eq-eqb x y e ∙ sym (eq-eqb y x (sym e))
      | inr ne ↦ ne_eqb x y ne ∙ sym (ne_eqb y x (λ e. ne (sym e)))
    ]

-- numbers stay distinct in another order
pub distinct_permuted : (given other : List (ℕ × ℕ)) → IsPermutation given other → are_distinct (firsts given) ≡ true → are_distinct (firsts other) ≡ true
distinct_permuted given other same h =
    is_distinct (firsts other) (IsDistinct-IsPermutation eqb eqb_flips (firsts given) (firsts other) (IsPermutation-map (λ (p : ℕ × ℕ). p.0) given other same) (distinct_is (firsts given) h))

-- ---- pairs that rise

first_below : (low n : ℕ) (pairs : List (ℕ × ℕ)) → AreRising low pairs → n < low → has (firsts pairs) n ≡ false
first_below low n [] rising lt = refl
first_below low n (p ∷ pairs) rising lt =
    ap (λ b. b || has (firsts pairs) n) (ne_eqb n p.0 (λ e. omega (arith, rising.0))) ∙ first_below (p.0 + 1) n pairs rising.1 (omega (arith, rising.0))

pub rising_distinct : (low : ℕ) (pairs : List (ℕ × ℕ)) → AreRising low pairs → are_distinct (firsts pairs) ≡ true
rising_distinct low [] rising = refl
rising_distinct low (p ∷ pairs) rising =
    ap (λ b. not b && are_distinct (firsts pairs)) (first_below (p.0 + 1) p.0 pairs rising.1 (omega arith)) ∙ rising_distinct (p.0 + 1) pairs rising.1

-- pairs in order whose first numbers are distinct rise
pub distinct_rising : (low : ℕ) (pairs : List (ℕ × ℕ)) → ((d : ℕ × ℕ) → 0 < length pairs → low ≤ (get_or pairs 0 d).0) → IsNonDecreasingBy (λ (p : ℕ × ℕ). p.0) pairs → are_distinct (firsts pairs) ≡ true → AreRising low pairs
distinct_rising low [] first order distinct = tt
distinct_rising low (p ∷ []) first order distinct = (first p (omega arith), tt)
distinct_rising low (p ∷ (q ∷ pairs)) first order distinct =
    let parts = and_parts (not (has (firsts (q ∷ pairs)) p.0)) (are_distinct (firsts (q ∷ pairs))) distinct in
    let le : p.0 ≤ q.0 = order 0 1 p (omega arith) (omega arith) in
    let apart : p.0 < q.0 =
    elim (cases_lt p.0 q.0) [
      | inl lt ↦ lt
      | inr ge ↦
          let same : p.0 ≡ q.0 = omega arith in
          absurd (false≢true (sym (ap (λ b. not (b || has (firsts pairs) p.0)) (eq-eqb p.0 q.0 same)) ∙ parts.0))
    ] in
    (first p (omega arith), distinct_rising (p.0 + 1) (q ∷ pairs) (λ d lt. omega arith) (λ i j d le lt. order (suc i) (suc j) d (omega arith) (omega arith)) parts.1)

-- what each comparison of neighbours answered
pub adjacent_rising : (low : ℕ) (pairs : List (ℕ × ℕ)) → ((d : ℕ × ℕ) → 0 < length pairs → low ≤ (get_or pairs 0 d).0) → AllAdjacentBelow (λ (x y : ℕ × ℕ). true ≡ ltb x.0 y.0) pairs (length pairs) → AreRising low pairs
adjacent_rising low [] first adjacent = tt
adjacent_rising low (p ∷ pairs) first adjacent = (
  first p (omega arith),
  adjacent_rising (p.0 + 1) pairs
      (λ d lt. let less : p.0 < (get_or pairs 0 d).0 = ltb-true _ _ (sym (adjacent 0 d (omega arith))) in omega arith)
      (λ k d lt. let more : suc k + 1 ≡ suc (k + 1) = omega arith in adjacent (suc k) d (omega arith) ∙ ap (λ n. ltb (get_or pairs k d).0 (get_or (p ∷ pairs) n d).0) more),
)

pub rising_adjacent : (low : ℕ) (pairs : List (ℕ × ℕ)) (k : ℕ) (d : ℕ × ℕ) → AreRising low pairs → k + 1 < length pairs → (get_or pairs k d).0 < (get_or pairs (k + 1) d).0
rising_adjacent low [] k d rising lt = absurd (omega arith)
rising_adjacent low (p ∷ []) k d rising lt = absurd (omega arith)
rising_adjacent low (p ∷ (q ∷ pairs)) zero d rising lt = omega (arith, rising.1.0)
rising_adjacent low (p ∷ (q ∷ pairs)) (suc k) d rising lt =
    let more : suc (k + 1) ≡ suc k + 1 = omega arith in
    subst (λ n. (get_or (q ∷ pairs) k d).0 < (get_or (p ∷ (q ∷ pairs)) n d).0) more (rising_adjacent (p.0 + 1) (q ∷ pairs) k d rising.1 (omega arith))

-- ---- the sort's end

pub sorted_rising : (given sorted : List (ℕ × ℕ)) → IsPermutation given sorted → AllAdjacentBelow (λ (x y : ℕ × ℕ). true ≡ ltb x.0 y.0) sorted (length sorted) → IsSorted given sorted
sorted_rising given sorted same adjacent =
    record { same = same; rising = adjacent_rising 0 sorted (λ d lt. omega arith) adjacent }

pub not_distinct : (given sorted : List (ℕ × ℕ)) → IsPermutation given sorted → IsNonDecreasingBy (λ (p : ℕ × ℕ). p.0) sorted → (k : ℕ) × (k + 1 < length sorted) × ((d : ℕ × ℕ) → false ≡ ltb (get_or sorted k d).0 (get_or sorted (k + 1) d).0) → are_distinct (firsts given) ≡ false
not_distinct given sorted same order fails =
    by (are_distinct (firsts given)) refl
  where
    by : (b : Bool) → are_distinct (firsts given) ≡ b → are_distinct (firsts given) ≡ false
    by false e = e
    by true e =
        let rising = distinct_rising 0 sorted (λ d lt. omega arith) order (distinct_permuted given sorted same e) in
        let less = rising_adjacent 0 sorted fails.0 (0, 0) rising fails.1 in
        let not_less = ltb-false _ _ (sym (fails.2 (0, 0))) in
        absurd (omega arith)

-- ---- the same numbers

pub sorted_distinct : (given sorted : List (ℕ × ℕ)) → IsSorted given sorted → are_distinct (firsts given) ≡ true
sorted_distinct given sorted is =
    distinct_permuted sorted given (IsPermutation-sym given sorted is.same) (rising_distinct 0 sorted is.rising)

-- pairs with distinct first numbers give the same in another order
pub number_permuted : (given other : List (ℕ × ℕ)) → IsPermutation given other → are_distinct (firsts given) ≡ true → (n : ℕ) → number_by given n ≡ number_by other n
number_permuted given other same distinct n =
    by (number_by given n) (number_by other n) refl refl
  where
    found : (m : ℕ) → number_by other n ≡ Some m → number_by given n ≡ Some m
    found m e = lookup-from_Contains nat_eq_equiv n m given (distinct_is (firsts given) distinct) (Contains-permutation other given (n, m) (IsPermutation-sym given other same) (Contains-from_lookup exact_unsigned_eq n m other e))

    missed : (m : ℕ) → number_by given n ≡ Some m → number_by other n ≡ Some m
    missed m e = lookup-from_Contains nat_eq_equiv n m other (distinct_is (firsts other) (distinct_permuted given other same distinct)) (Contains-permutation given other (n, m) same (Contains-from_lookup exact_unsigned_eq n m given e))

    by : (r s : Option ℕ) → number_by given n ≡ r → number_by other n ≡ s → number_by given n ≡ number_by other n
    by r (Some m) e f = found m f ∙ sym f
    by (Some m) None e f = e ∙ sym (missed m e)
    by None None e f = e ∙ sym f
