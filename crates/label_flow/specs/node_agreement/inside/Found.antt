-- The least number that has two meanings, while it is looked for.
use Rattle.std.specs.Prelude.{◌≡◌, ℕ, ◌<◌, ◌≤◌, false, Option, Some, None, IfSome}
use Rattle.label_commands.specs.node_readings.Reading.{NamedMeanings}
use Rattle.node_tables.specs.Tables.{TableState}
use Rattle.label_flow.specs.declared.node_agreement.difference.Difference.{Difference}
use Rattle.label_flow.specs.declared.node_agreement.disagree.Disagree.{Disagree}
use Rattle.label_flow.specs.node_agreement.First.{is_before, IsDifference}

-- two meanings, where both are there, are one
abbrev pub IsSame : Option ℕ → Option ℕ → Type 0
IsSame left right = (a b : ℕ) → left ≡ Some a → right ≡ Some b → a ≡ b

-- two meanings that differ
pub record Differ (meaning other : Option ℕ) (d : Difference) : Type 0 where
  pub left_is : meaning ≡ Some d.left
  pub right_is : other ≡ Some d.right
  pub unlike : d.left ≡ d.right → ⊥

-- numbers below are of interest: all, or those below the one that was found
abbrev pub reach : ℕ → Option Difference → ℕ
reach limit None = limit
reach limit (Some d) = d.wire

-- what was found is a difference below the limit
abbrev pub IsSound : (ℕ → Option ℕ) → (ℕ → Option ℕ) → ℕ → Option Difference → Type 0
IsSound f g limit best = IfSome best (λ d. (d.wire < limit) × Differ (f d.wire) (g d.wire) d)

-- n needn't be looked at any more
abbrev pub IsSettled : (ℕ → Option ℕ) → (ℕ → Option ℕ) → ℕ → Option Difference → ℕ → Type 0
IsSettled f g limit best n = n < reach limit best → IsSame (f n) (g n)

-- the least difference below the limit, if there is one
pub record IsLeast (f g : ℕ → Option ℕ) (limit : ℕ) (best : Option Difference) : Type 0 where
  pub sound : IsSound f g limit best
  pub settled : (n : ℕ) → IsSettled f g limit best n

-- e isn't before what was found, and there is none where nothing was found
abbrev pub IsNotBefore : Disagree → Option Disagree → Type 0
IsNotBefore e None = ⊥
IsNotBefore e (Some d) = is_before e d ≡ false

-- the first difference among some
pub record IsFirstAmong (some : Disagree → Type 0) (left right : TableState) (left_named right_named : NamedMeanings) (found : Option Disagree) : Type 0 where
  pub sound : IfSome found (λ d. IsDifference left right left_named right_named d × some d)
  pub first : (e : Disagree) → IsDifference left right left_named right_named e → some e → IsNotBefore e found

-- where a DOI n isn't below `from`, neither is it below the lowest that was found
abbrev pub IsFloor : ℕ → Option ℕ → ℕ → Type 0
IsFloor from None n = from ≤ n → ⊥
IsFloor from (Some low) n = from ≤ n → low ≤ n
