use Rattle.std.proofs.Common.{◌≡◌, ◌-◌}
use Rattle.flow_tests.proofs.of_packet_walk.stepped.Given as goal

abbrev pub invariant-loop-publisher : goal.invariant-loop-publisher
invariant-loop-publisher g l = l.publisher.plan ≡ l.fn.publisher.plan

abbrev pub decreases-loop-publisher : goal.decreases-loop-publisher
decreases-loop-publisher g l = l.steps - l.publisher.version
