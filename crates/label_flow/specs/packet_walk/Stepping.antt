-- Tables that go forward step by step.
use Rattle.std.specs.Prelude.{ℕ}
use Rattle.shared_tables.specs.Plan.{PlanState}

-- the tables of all nodes of a plan after so many of its steps
pub record TablesAt : Type 0 where
  pub plan : PlanState
  pub version : ℕ
