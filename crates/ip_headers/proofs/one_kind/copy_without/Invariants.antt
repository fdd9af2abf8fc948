use Rattle.std.proofs.Common.{length}
use Rattle.ip_headers.proofs.Swaps.{IsCopied}
use Rattle.ip_headers.proofs.one_kind.copy_without.Given as goal

abbrev pub invariant-loop-size : goal.invariant-loop-size
invariant-loop-size o l = IsCopied l.kind l.area l.rest l.kept.items

abbrev pub decreases-loop-size : goal.decreases-loop-size
decreases-loop-size o l = length l.rest
