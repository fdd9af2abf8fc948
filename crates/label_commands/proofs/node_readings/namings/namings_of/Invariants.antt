use Rattle.std.proofs.Common.{take}
use Rattle.label_commands.specs.node_readings.inside.Namings.{AreNamings}
use Rattle.label_commands.proofs.node_readings.namings.namings_of.Given as goal

abbrev pub invariant-loop-number : goal.invariant-loop-number
invariant-loop-number l = AreNamings (take l.number-index l.pairs) l.first.entries l.once
