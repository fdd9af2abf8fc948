use Rattle.std.proofs.Common.{◌≡◌, length}
use Rattle.label_audit.specs.inside.Flow.{Ready}
use Rattle.label_audit.proofs.flow.Judge.new.Given as goal

abbrev pub invariant-loop-worker : goal.invariant-loop-worker
invariant-loop-worker l = record {
  ready : Ready l.script l._worker 0 l.tables.items;
  nodes : l.nodes ≡ length l.script.nodes;
  steps : l.steps ≡ l.script.steps;
}
