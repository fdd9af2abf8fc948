use Rattle.std.proofs.Common.{◌≤◌, ◌-◌, length}
use Rattle.label_flow.proofs.crew.order_all.Given as goal

abbrev pub invariant-loop-at : goal.invariant-loop-at
invariant-loop-at g l = l.at ≤ length l.seens

abbrev pub decreases-loop-at : goal.decreases-loop-at
decreases-loop-at g l = length l.seens - l.at
