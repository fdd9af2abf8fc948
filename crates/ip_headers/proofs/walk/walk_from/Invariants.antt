use Rattle.std.proofs.Common.{length}
use Rattle.ip_headers.proofs.Walks.{IsSoFar}
use Rattle.ip_headers.proofs.walk.walk_from.Given as goal

abbrev pub invariant-loop-found : goal.invariant-loop-found
invariant-loop-found l = IsSoFar l.version l.area l.first l.found l.at l.rest

abbrev pub decreases-loop-found : goal.decreases-loop-found
decreases-loop-found l = length l.rest
