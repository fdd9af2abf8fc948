use Rattle.std.proofs.Common.{ℕ, ◌<◌}
use Rattle.label_commands.proofs.node_readings.Increasing.{Climbs}
use Rattle.label_commands.proofs.node_readings.namings.is_increasing.Given as goal

abbrev pub invariant-loop-n : goal.invariant-loop-n
invariant-loop-n l = (k : ℕ) → k < l.n → Climbs l.first.entries k
