-- The laws of src/laws.rt under their names, for the crates above.
use Rattle.std.proofs.Common.{◌≡◌, ℕ, ◌+◌, ◌-◌, ◌<◌, ◌≤◌, Bool, ◌||◌, List, [], ◌∷◌, length, IsTrue, refl, ◌∙◌, arith, inl, inr}
use Rattle.std.specs.List.{list_any, range_with_len}
use Rattle.std.proofs.lemmas.Bool.{cases_eq, eq-eqb, ne_eqb}
use Rattle.std.proofs.lemmas.Bool.Decides.{nat_tests}
use Rattle.mls_label.specs.declared.label.Label.{Label}
use Rattle.mls_label.specs.Cats.{has, is_within, cats_where, Ascends, IsCats}
use Rattle.mls_label.specs.Runs.{join_front, runs_of, numbers_of, AreRunsOf}
use Rattle.mls_label.specs.Label.{Dominates}
use Rattle.mls_label.proofs.Cats.{has-append, has-range_with_len, has_bounds, ascends_range, subset_both, cats_where-cats, has-cats_where, cats_where_is, cats_where_same}
use Rattle.mls_label.proofs.Runs.{cats_of_runs, runs_are}

pub tests_give_sets : (passes : ℕ → Bool) → IsCats (cats_where passes)
tests_give_sets = cats_where-cats

pub sets_of_a_test_have_what_passes : (passes : ℕ → Bool) (c : ℕ) → c < 65535 → has (cats_where passes) c ≡ passes c
sets_of_a_test_have_what_passes = has-cats_where

pub sets_are_what_they_have : (cats : List ℕ) (passes : ℕ → Bool) → IsCats cats → ((c : ℕ) → c < 65535 → has cats c ≡ passes c) → cats ≡ cats_where passes
sets_are_what_they_have = cats_where_is

pub equal_tests_give_equal_sets : (p q : ℕ → Bool) → ((c : ℕ) → c < 65535 → p c ≡ q c) → cats_where p ≡ cats_where q
equal_tests_give_equal_sets = cats_where_same

pub sets_have_categories : (cats : List ℕ) (c : ℕ) → IsCats cats → IsTrue (has cats c) → c < 65535
sets_have_categories cats c is h = (has_bounds 0 65535 cats c is h).1

pub ranges_ascend : (low high first count : ℕ) → low ≤ first → first + count ≤ high → Ascends low high (range_with_len first count)
ranges_ascend = ascends_range

pub runs_have_their_numbers : (cats : List ℕ) → numbers_of (runs_of cats) ≡ cats
runs_have_their_numbers = cats_of_runs

pub sets_have_their_runs : (cats : List ℕ) → IsCats cats → AreRunsOf (runs_of cats) cats
sets_have_their_runs = runs_are

run_has : (first last c : ℕ) → has (range_with_len first (last + 1 - first)) c ≡ is_within first last c
run_has first last c = has-range_with_len first (last + 1 - first) c ∙ grind (arith, nat_tests)

pub runs_have_what_each_has : (runs : List (ℕ × ℕ)) (c : ℕ) → has (numbers_of runs) c ≡ list_any (λ (r : ℕ × ℕ). is_within r.0 r.1 c) runs
runs_have_what_each_has [] c = refl
runs_have_what_each_has (r ∷ runs) c =
    has-append (range_with_len r.0 (r.1 + 1 - r.0)) (numbers_of runs) c ∙ (λ i. run_has r.0 r.1 c i || runs_have_what_each_has runs c i)

join_length : (c : ℕ) (runs : List (ℕ × ℕ)) → length (join_front c runs) ≤ length runs + 1
join_length c [] = omega arith
join_length c (r ∷ runs) =
    elim (cases_eq r.0 (c + 1)) [
      | inl e ↦ rw (eq-eqb r.0 (c + 1) e) (omega arith)
      | inr ne ↦ rw (ne_eqb r.0 (c + 1) ne) (omega arith)
    ]

pub runs_are_no_more_than_numbers : (cats : List ℕ) → length (runs_of cats) ≤ length cats
runs_are_no_more_than_numbers [] = omega arith
runs_are_no_more_than_numbers (c ∷ cats) =
    omega (arith, join_length c (runs_of cats), runs_are_no_more_than_numbers cats)

pub dominance_is_reflexive : (a : Label) → Dominates a a
dominance_is_reflexive a = record { level = omega arith; cats = λ c h. h }

pub dominance_is_transitive : (a b c : Label) → Dominates a b → Dominates b c → Dominates a c
dominance_is_transitive a b c x y =
    record { level = omega (arith, x.level, y.level); cats = λ k h. x.cats k (y.cats k h) }

pub dominance_is_antisymmetric : (a b : Label) → IsCats a.cats → IsCats b.cats → Dominates a b → Dominates b a → a ≡ b
dominance_is_antisymmetric a b is is2 x y =
    let level : a.level ≡ b.level = omega (arith, x.level, y.level) in
    let cats : a.cats ≡ b.cats = subset_both a.cats b.cats is is2 y.cats x.cats in
    λ i. record { level = level i; cats = cats i }
