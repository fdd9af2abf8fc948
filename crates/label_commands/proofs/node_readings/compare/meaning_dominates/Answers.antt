use Rattle.std.proofs.Common.{arith}
use Rattle.label_commands.proofs.node_readings.Meanings.{dominates_by}
use Rattle.label_commands.proofs.node_readings.compare.meaning_dominates.Goals as goal

pub returns-then-level : goal.returns-then-level
returns-then-level c =
    dominates_by c.args.reading.now c.args.other_reading.now c.args.label.now c.args.other.now c.are_meant.result
    (omega (arith, c.if-level.true, c.level.ensures.value, c.level-2.ensures.value)) c.are_meant.ensures
