use Rattle.std.proofs.Common.{◌≡◌, ◌++◌, take, drop}
use Rattle.netlabel_codec.specs.Told.{runs_told}
use Rattle.netlabel_codec.proofs.put.put_runs.Given as goal

-- so many runs stand at the front, and behind them the buffer is as it was
abbrev pub invariant-loop-place : goal.invariant-loop-place
invariant-loop-place l = l.runs ≡ take l.place (runs_told l.cats) ++ drop l.place l.fn.runs
