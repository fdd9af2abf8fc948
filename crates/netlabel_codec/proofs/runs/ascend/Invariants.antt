use Rattle.std.proofs.Common.{◌↔◌, length}
use Rattle.netlabel_codec.specs.Written.{AreRunsFrom}
use Rattle.netlabel_codec.proofs.runs.ascend.Given as goal

-- what is still to come has to ascend from here
abbrev pub invariant-loop-rest : goal.invariant-loop-rest
invariant-loop-rest l = AreRunsFrom l.low l.rest ↔ AreRunsFrom 0 l.fn.runs

abbrev pub decreases-loop-rest : goal.decreases-loop-rest
decreases-loop-rest l = length l.rest
