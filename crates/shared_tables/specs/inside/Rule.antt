-- The rule of what is shared: it goes over the plan and over numbers alone.
use Rattle.std.specs.Prelude.{◌≡◌, ℕ, ◌≤◌, List, [], true, false}
use Rattle.std.specs.Arc.{arc_value}
use mathlib.Core.Option.{some}
use lib.ListN.{get_elem?}
use Rattle.shared_tables.specs.Plan.{PlanState}
use Rattle.shared_tables.specs.declared.state.State.{State}
use Rattle.shared_tables.specs.declared.rule.View.{View}

-- one who was told nothing yet
abbrev pub unknown : View
unknown = record { knows = false; plan = record { nodes = 0; steps = [] }; seen = 0 }

-- one who knows the plan, and that this version was reached
abbrev pub known : PlanState → ℕ → View
known plan version = record { knows = true; plan = plan; seen = version }

-- what one knows is true of the published state: its plan is that plan, and its version isn't below the one seen
abbrev pub Fits : State → View → Type 0
Fits state view = view.knows ≡ true → (arc_value state.plan ≡ view.plan) × (view.seen ≤ state.version)

abbrev pub AllFit : State → List View → Type 0
AllFit state views = (seat : ℕ) (view : View) → get_elem? views seat ≡ some view → Fits state view

-- one knows the state that was found, and what was known before is true of it
abbrev pub Finds : View → State → State → View → Type 0
Finds before state found after = (after ≡ known (arc_value found.plan) found.version) × Fits found before
