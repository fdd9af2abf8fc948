use Rattle.std.proofs.Common.{◌≡◌, ◌-◌, ◌≤◌}
use Rattle.flow_tests.proofs.of_label_flow.stepped.Given as goal

abbrev pub invariant-loop-publisher : goal.invariant-loop-publisher
invariant-loop-publisher g l = record {
  board : l.publisher.board ≡ l.fn.publisher.board;
  plan : l.publisher.plan ≡ l.fn.publisher.plan;
  within : l.publisher.version ≤ l.version;
}

abbrev pub decreases-loop-publisher : goal.decreases-loop-publisher
decreases-loop-publisher g l = l.version - l.publisher.version
