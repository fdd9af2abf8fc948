use Rattle.std.proofs.Common.{◌≡◌, ◌≤◌, ◌<◌, ℕ, Some, slice_get}
use Rattle.mls_label.specs.Runs.{runs_of}
use Rattle.label_commands.specs.node_readings.inside.Meant.{AreMeant}
use Rattle.label_commands.proofs.node_readings.compare.are_meant.Given as goal

-- the runs so far
abbrev pub invariant-loop-i : goal.invariant-loop-i
invariant-loop-i l = (k : ℕ) (r : ℕ × ℕ) → k < l.i → slice_get (runs_of l.other) k ≡ Some r → AreMeant l.cats l.reading.cats (λ c. (r.0 ≤ c) × (c ≤ r.1)) l.other_reading.cats
