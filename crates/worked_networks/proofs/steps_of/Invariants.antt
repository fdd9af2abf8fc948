use Rattle.std.proofs.Common.{◌≡◌, ◌<◌, All, length}
use Rattle.script_lines.specs.declared.command.Step.{Step}
use Rattle.worked_networks.proofs.steps_of.Given as goal

abbrev pub invariant-loop-entry : goal.invariant-loop-entry
invariant-loop-entry l = record {
  count : length l.steps.items ≡ l.entry-index;
  inside : All (λ (step : Step). step.node < l.nodes) l.steps.items;
}
