use Rattle.std.proofs.Common.{◌≤◌, ◌<◌}
use Rattle.label_commands.specs.node_readings.inside.Meant.{AreMeant}
use Rattle.label_commands.proofs.node_readings.compare.is_run_meant.Given as goal

abbrev pub invariant-loop-category : goal.invariant-loop-category
invariant-loop-category l = AreMeant l.cats l.reading.cats (λ c. (l.first ≤ c) × (c < l.category)) l.other_reading.cats
