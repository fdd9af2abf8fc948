-- What a publisher keeps between two calls.
use Rattle.std.specs.Prelude.{◌≡◌, ℕ, ◌+◌, ◌≤◌}
use Rattle.std.specs.Arc.{arc_value}
use Rattle.shared_tables.specs.declared.state.State.{State}
use Rattle.shared_tables.specs.declared.rule.View.{View}
use Rattle.shared_tables.specs.inside.Rule.{known}

-- the writer knows what is published, and one step is pending at most
pub record IsReady (state : State) (view : View) (pending : ℕ) : Type 0 where
  pub knows : view ≡ known (arc_value state.plan) state.version
  pub few : pending ≤ 1

-- the pending steps were published, and the writer knows it
pub record HasPublished (before : State) (pending : ℕ) (after : State) (left : ℕ) (view : View) : Type 0 where
  pub plan : arc_value after.plan ≡ arc_value before.plan
  pub version : after.version ≡ before.version + pending
  pub none : left ≡ 0
  pub knows : view ≡ known (arc_value after.plan) after.version
