use Rattle.std.proofs.Common.{◌≡◌, ◌≤◌, ◌-◌, length}
use Rattle.node_tables.specs.Steps.{tables_after}
use Rattle.ripso_border_run.proofs.definition.last_tables.Given as goal

abbrev pub decreases-loop-done : goal.decreases-loop-done
decreases-loop-done l = length l.steps - l.done

-- so many steps were carried out
abbrev pub invariant-loop-done : goal.invariant-loop-done
invariant-loop-done l = record {
  within : l.done ≤ length l.steps;
  network : l.network ≡ tables_after (length l.script.nodes) l.steps l.done;
}
