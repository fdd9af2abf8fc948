use Rattle.std.proofs.Common.{length}
use Rattle.ip_headers.proofs.Swaps.{IsSought}
use Rattle.ip_headers.proofs.one_kind.find_kind.Given as goal

abbrev pub invariant-loop-size : goal.invariant-loop-size
invariant-loop-size l = IsSought l.kind l.area l.first l.at l.rest

abbrev pub decreases-loop-size : goal.decreases-loop-size
decreases-loop-size l = length l.rest
