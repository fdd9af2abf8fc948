-- What a node may say of a DOI: which of its own numbers stands for which number on the wire. In a pair the local number comes first.
use Rattle.std.specs.Prelude.{◌≡◌, ℕ, ◌<◌, ◌≤◌, Bool, false, ◌&&◌, List, [], length, IsTrue, Option, Some, if◌then◌else◌}
use Rattle.std.specs.List.{All}
use Rattle.doi_table.specs.declared.plan.DoiPlan.{DoiPlan}
use Rattle.doi_table.specs.Pairs.{is_one_to_one, number_by}

-- each number of the pairs is below the bound
abbrev pub AreBelow : ℕ → List (ℕ × ℕ) → Type 0
AreBelow bound pairs = All (λ (p : ℕ × ℕ). (p.0 < bound) × (p.1 < bound)) pairs

-- the categories of the plan are categories, and a plan that passes all numbers has no pairs
pub record IsPlan (plan : DoiPlan) : Type 0 where
  pub cats : AreBelow 65535 plan.cats
  pub pass_levels : plan.trans ≡ false → plan.levels ≡ []
  pub pass_cats : plan.trans ≡ false → plan.cats ≡ []

-- no two level pairs and no two category pairs have an equal local or an equal remote number
abbrev pub is_plan_one_to_one : DoiPlan → Bool
is_plan_one_to_one plan = is_one_to_one plan.levels && is_one_to_one plan.cats

-- a plan that is a definition
pub record IsDefinition (plan : DoiPlan) : Type 0 where
  pub is_plan : IsPlan plan
  pub levels : AreBelow 256 plan.levels
  pub few : length plan.cats ≤ 1952
  pub one_to_one : IsTrue (is_plan_one_to_one plan)

-- the number that a definition gives for n: by its pairs, or n itself where all numbers pass
abbrev pub number_in : Bool → List (ℕ × ℕ) → ℕ → Option ℕ
number_in trans pairs n = if trans then number_by pairs n else Some n
