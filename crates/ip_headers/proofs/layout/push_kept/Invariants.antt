use Rattle.std.proofs.Common.{length}
use Rattle.ip_headers.proofs.Layouts.{IsLaid}
use Rattle.ip_headers.proofs.layout.push_kept.Given as goal

abbrev pub invariant-loop-size : goal.invariant-loop-size
invariant-loop-size l = IsLaid l.version l.area l.initial.out.items l.at l.rest l.out.items

abbrev pub decreases-loop-size : goal.decreases-loop-size
decreases-loop-size l = length l.rest
