use Rattle.std.proofs.Common.{◌≡◌, ◌+◌, length, drop}
use Rattle.mls_label.specs.inside.Kept.{cats_of}
use Rattle.mls_label.proofs.kept_runs.count_of.Given as goal

abbrev pub invariant-loop-run : goal.invariant-loop-run
invariant-loop-run l = l.count + length (cats_of (drop l.run-index l.runs)) ≡ length (cats_of l.runs)
