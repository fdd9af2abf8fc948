use Rattle.std.proofs.Common.{◌+◌, ◌-◌, ◌<◌, ◌≤◌}
use Rattle.mls_range.specs.inside.Number.{Reaches}
use Rattle.mls_range.proofs.number.reaches.Given as goal

abbrev pub invariant-loop-first : goal.invariant-loop-first
invariant-loop-first l = record {
  small : l.last < 1000000;
  order : l.first ≤ l.last;
  into : Reaches l.first l.last l.low l.high → Reaches l.start l.start l.low l.high;
  back : Reaches l.start l.start l.low l.high → Reaches l.first l.last l.low l.high;
}

abbrev pub decreases-loop-first : goal.decreases-loop-first
decreases-loop-first l = l.low + 1 - l.last
