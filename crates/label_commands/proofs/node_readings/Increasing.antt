-- Levels whose meanings increase.
use Rattle.std.proofs.Common.{◌≡◌, ℕ, zero, suc, ◌+◌, ◌-◌, ◌<◌, ◌≤◌, Bool, true, false, nat_lt, List, ◌↔◌, unwrap_or, IsTrue, refl, sym, ap, subst, arith, inl, inr}
use Rattle.std.specs.List.{list_all, range_with_len}
use Rattle.std.proofs.lemmas.Bool.{cases_eq, and_parts, and_from, ltb-true, lt-ltb, false_from_ne_true, false≢true}
use Rattle.doi_table.specs.Pairs.{number_by}
use Rattle.label_commands.specs.node_readings.Reading.{meaning_in, is_increasing}

-- a test passes from a on, n times
all_range : (p : ℕ → Bool) (a n k : ℕ) → list_all p (range_with_len a n) ≡ true → a ≤ k → k < a + n → p k ≡ true
all_range p a zero k all le lt = absurd (omega arith)
all_range p a (suc n) k all le lt =
    let parts = and_parts (p a) (list_all p (range_with_len (a + 1) n)) all in
    elim (cases_eq a k) [
      | inl e ↦ subst (λ m. p m ≡ true) e parts.0
      | inr ne ↦ all_range p (a + 1) n k parts.1 (omega arith) (omega arith)
    ]

range_all : (p : ℕ → Bool) (a n : ℕ) → ((k : ℕ) → a ≤ k → k < a + n → p k ≡ true) → list_all p (range_with_len a n) ≡ true
range_all p a zero each = refl
range_all p a (suc n) each =
    and_from (p a) (list_all p (range_with_len (a + 1) n)) (each a (omega arith) (omega arith)) (range_all p (a + 1) n (λ k le lt. each k (omega arith) (omega arith)))

-- each number means less than the next
abbrev pub Climbs : List (ℕ × ℕ) → ℕ → Type 0
Climbs pairs n = meaning_in pairs n < meaning_in pairs (n + 1)

pub increasing_steps : (levels : List (ℕ × ℕ)) → is_increasing levels ≡ true → (n : ℕ) → n < 255 → Climbs levels n
unfolding is_increasing
increasing_steps levels h n lt =
    ltb-true (meaning_in levels n) (meaning_in levels (n + 1)) (all_range (λ k. nat_lt (meaning_in levels k) (meaning_in levels (k + 1))) 0 255 n h (omega arith) (omega arith))

pub steps_increasing : (levels : List (ℕ × ℕ)) → ((n : ℕ) → n < 255 → Climbs levels n) → is_increasing levels ≡ true
unfolding is_increasing
steps_increasing levels each =
    range_all (λ k. nat_lt (meaning_in levels k) (meaning_in levels (k + 1))) 0 255 (λ k le lt. lt-ltb (meaning_in levels k) (meaning_in levels (k + 1)) (each k (omega arith)))

-- from neighbours to any two
climbs_far : (pairs : List (ℕ × ℕ)) (a n : ℕ) → ((k : ℕ) → k < 255 → Climbs pairs k) → a + suc n < 256 → meaning_in pairs a < meaning_in pairs (a + suc n)
climbs_far pairs a zero each lt = subst (λ k. meaning_in pairs a < meaning_in pairs k) (omega arith) (each a (omega arith))
climbs_far pairs a (suc n) each lt =
    let less : meaning_in pairs a < meaning_in pairs (a + suc n) = climbs_far pairs a n each (omega arith) in
    let next : meaning_in pairs (a + suc n) < meaning_in pairs (a + suc n + 1) = each (a + suc n) (omega arith) in
    let place : a + suc n + 1 ≡ a + suc (suc n) = omega arith in
    subst (λ k. meaning_in pairs a < meaning_in pairs k) place (omega arith)

pub climbs : (pairs : List (ℕ × ℕ)) (a b : ℕ) → ((k : ℕ) → k < 255 → Climbs pairs k) → a < b → b < 256 → meaning_in pairs a < meaning_in pairs b
climbs pairs a b each less lt =
    let n = b - a - 1 in
    let place : a + suc n ≡ b = omega arith in
    subst (λ k. meaning_in pairs a < meaning_in pairs k) place (climbs_far pairs a n each (omega arith))

-- pairs that give the same numbers climb together
climbs_same : (xs ys : List (ℕ × ℕ)) → ((n : ℕ) → number_by xs n ≡ number_by ys n) → (n : ℕ) → Climbs xs n → Climbs ys n
climbs_same xs ys same n h =
    subst (λ k. k < meaning_in ys (n + 1)) (ap (λ r. unwrap_or r n) (same n)) (subst (λ k. meaning_in xs n < k) (ap (λ r. unwrap_or r (n + 1)) (same (n + 1))) h)

-- the answer of the test on other pairs that give the same numbers
pub increasing_is : (levels first : List (ℕ × ℕ)) (r : Bool) → ((n : ℕ) → number_by levels n ≡ number_by first n) → (IsTrue r ↔ ((n : ℕ) → n < 255 → Climbs first n)) → is_increasing levels ≡ r
increasing_is levels first true same tells =
    steps_increasing levels (λ n lt. climbs_same first levels (λ m. sym (same m)) n (tells.0 refl n lt))
increasing_is levels first false same tells =
    false_from_ne_true (is_increasing levels) (λ h. false≢true (tells.1 (λ n lt. climbs_same levels first same n (increasing_steps levels h n lt))))
