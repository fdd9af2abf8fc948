use Rattle.std.proofs.Common.{◌-◌}
use Rattle.label_flow.proofs.node_agreement.Firsts.{NoneBelow}
use Rattle.label_flow.proofs.node_agreement.compare.first_of.Given as goal

abbrev pub invariant-loop-doi : goal.invariant-loop-doi
invariant-loop-doi l = NoneBelow l.nodes.left.now l.nodes.right.now l.nodes.left_reading.now l.nodes.right_reading.now l.proto l.from

abbrev pub decreases-loop-doi : goal.decreases-loop-doi
decreases-loop-doi l = 4294967296 - l.from
