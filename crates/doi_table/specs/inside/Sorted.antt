-- Pairs in ascending order of their first numbers.
use Rattle.std.specs.Prelude.{◌≡◌, ℕ, ◌+◌, ◌≤◌, List, [], ◌∷◌, length, IsPermutation}
use Rattle.doi_table.specs.declared.plan.DoiPlan.{DoiPlan}
use Rattle.doi_table.specs.Pairs.{number_by, flipped}
use Rattle.doi_table.specs.Definition.{AreBelow, IsDefinition}

-- the first numbers ascend, from low on
abbrev pub AreRising : ℕ → List (ℕ × ℕ) → Type 0
AreRising low [] = Unit {0}
AreRising low (p ∷ pairs) = (low ≤ p.0) × AreRising (p.0 + 1) pairs

-- the same pairs as given, in ascending order
pub record IsSorted (given sorted : List (ℕ × ℕ)) : Type 0 where
  pub same : IsPermutation given sorted
  pub rising : AreRising 0 sorted

-- the pairs of a plan sorted for both directions: by the local number and by the remote one
pub record AreDirections (plan : DoiPlan) (levels cats back_levels back_cats : List (ℕ × ℕ)) : Type 0 where
  pub out_levels : IsSorted plan.levels levels
  pub out_cats : IsSorted plan.cats cats
  pub in_levels : IsSorted (flipped plan.levels) back_levels
  pub in_cats : IsSorted (flipped plan.cats) back_cats

-- what a definition keeps
pub record IsKept (plan : DoiPlan) (levels cats back_levels back_cats : List (ℕ × ℕ)) : Type 0 where
  pub is_definition : IsDefinition plan
  pub directions : AreDirections plan levels cats back_levels back_cats

-- sorted pairs that a label can be translated by
pub record IsServing (levels cats : List (ℕ × ℕ)) : Type 0 where
  pub levels_rise : AreRising 0 levels
  pub levels_below : AreBelow 256 levels
  pub cats_rise : AreRising 0 cats
  pub cats_below : AreBelow 65535 cats
  pub few : length cats ≤ 1952

-- they have the given pairs, and give the same
pub record Serves (given_levels given_cats levels cats : List (ℕ × ℕ)) : Type 0 where
  pub serving : IsServing levels cats
  pub has_levels : IsPermutation given_levels levels
  pub has_cats : IsPermutation given_cats cats
  pub same_levels : (n : ℕ) → number_by given_levels n ≡ number_by levels n
  pub same_cats : (n : ℕ) → number_by given_cats n ≡ number_by cats n
