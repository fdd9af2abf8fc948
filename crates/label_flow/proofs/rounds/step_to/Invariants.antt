use Rattle.std.proofs.Common.{◌≡◌, ◌-◌, ◌≤◌, length}
use Rattle.label_flow.proofs.rounds.step_to.Given as goal

abbrev pub invariant-loop-publisher : goal.invariant-loop-publisher
invariant-loop-publisher g l = record {
  board : l.publisher.board ≡ l.fn.publisher.board;
  plan : l.publisher.plan ≡ l.fn.publisher.plan;
  later : l.fn.publisher.version ≤ l.publisher.version;
  within : l.publisher.version ≤ length l.fn.publisher.plan.steps;
}

abbrev pub decreases-loop-publisher : goal.decreases-loop-publisher
decreases-loop-publisher g l = l.upto - l.publisher.version
