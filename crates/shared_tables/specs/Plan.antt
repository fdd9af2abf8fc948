-- A plan, and what its first steps make of the nodes.
use Rattle.std.specs.Prelude.{ℕ, List}
use Rattle.script_lines.specs.declared.command.Step.{Step}
use Rattle.node_tables.specs.Tables.{TableState}
use Rattle.node_tables.specs.Steps.{tables_after}

-- so many nodes, and the steps that are given to them one after another
pub record PlanState : Type 0 where
  pub nodes : ℕ
  pub steps : List Step

-- the nodes' tables after the first k steps
abbrev pub network_after : PlanState → ℕ → List TableState
network_after plan k = tables_after plan.nodes plan.steps k
