use Rattle.std.proofs.Common.{length}
use Rattle.ip_headers.proofs.Layouts.{IsMeasured}
use Rattle.ip_headers.proofs.layout.kept_end.Given as goal

abbrev pub invariant-loop-size : goal.invariant-loop-size
invariant-loop-size l = IsMeasured l.version l.area l.free l.at l.rest l.end

abbrev pub decreases-loop-size : goal.decreases-loop-size
decreases-loop-size l = length l.rest
