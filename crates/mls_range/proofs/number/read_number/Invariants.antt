use Rattle.std.proofs.Common.{◌-◌, length}
use Rattle.mls_range.proofs.Numbers.{HasDigits}
use Rattle.mls_range.proofs.number.read_number.Given as goal

abbrev pub invariant-loop-at : goal.invariant-loop-at
invariant-loop-at l = HasDigits l.text l.start l.at l.low l.high l.number

abbrev pub decreases-loop-at : goal.decreases-loop-at
decreases-loop-at l = length l.text - l.at
