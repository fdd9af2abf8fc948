use Rattle.std.proofs.Common.{◌≡◌, ◌++◌, take, drop, map}
use Rattle.domain_map.specs.inside.Order.{lowered}
use Rattle.domain_map.proofs.order.lower.Given as goal

-- what is done, and what would come behind it
abbrev pub invariant-loop-at : goal.invariant-loop-at
invariant-loop-at l = take l.at l.order ++ map (lowered l.place) (drop l.at l.order) ≡ map (lowered l.place) l.initial.order
