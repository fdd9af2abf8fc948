use Rattle.std.proofs.Common.{◌≡◌, take, map}
use Rattle.mls_label.specs.Runs.{numbers_of}
use Rattle.netlabel_codec.specs.Written.{run_ends}
use Rattle.netlabel_codec.proofs.runs.add_runs.Given as goal

-- the runs so far are in the set
abbrev pub invariant-loop-run : goal.invariant-loop-run
invariant-loop-run l = l.cats ≡ numbers_of (map run_ends (take l.run-index l.runs))
