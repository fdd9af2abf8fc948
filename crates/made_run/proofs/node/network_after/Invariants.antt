use Rattle.std.proofs.Common.{◌≡◌}
use Rattle.node_tables.specs.Steps.{tables_after}
use Rattle.made_run.proofs.node.network_after.Given as goal

-- so many steps were applied
abbrev pub invariant-loop-step : goal.invariant-loop-step
invariant-loop-step l = record { applied : l.network ≡ tables_after 1 l.fn.steps l.step-index }
