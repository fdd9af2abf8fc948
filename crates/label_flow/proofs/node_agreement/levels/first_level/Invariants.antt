use Rattle.std.proofs.Common.{true, ℕ, ◌<◌}
use Rattle.label_flow.specs.node_agreement.Meanings.{wire_meaning}
use Rattle.label_flow.specs.node_agreement.inside.Found.{IsSame}
use Rattle.label_flow.proofs.node_agreement.levels.first_level.Given as goal

abbrev pub invariant-loop-wire : goal.invariant-loop-wire
invariant-loop-wire l =
    (n : ℕ) → n < l.wire → IsSame (wire_meaning true l.ends.left.now l.ends.left_reading.now n) (wire_meaning true l.ends.right.now l.ends.right_reading.now n)
