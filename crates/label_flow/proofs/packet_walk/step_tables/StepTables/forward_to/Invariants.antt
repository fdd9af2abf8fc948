use Rattle.std.proofs.Common.{◌≡◌, ◌≤◌, ◌-◌}
use Rattle.label_flow.proofs.packet_walk.step_tables.StepTables.forward_to.Given as goal

abbrev pub decreases-loop-self : goal.decreases-loop-self
decreases-loop-self l = l.version - l.self.version

abbrev pub invariant-loop-self : goal.invariant-loop-self
invariant-loop-self l = record {
  plan : l.self.plan ≡ l.fn.self.plan;
  later : l.fn.self.version ≤ l.self.version;
  within : l.self.version ≤ l.version;
}
