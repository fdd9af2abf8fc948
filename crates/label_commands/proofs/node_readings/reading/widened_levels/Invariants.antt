use Rattle.std.proofs.Common.{◌≡◌, take}
use Rattle.label_commands.proofs.node_readings.reading.widened_levels.Given as goal

abbrev pub invariant-loop-level : goal.invariant-loop-level
invariant-loop-level l = l.wide.items ≡ take l.level-index l.levels
