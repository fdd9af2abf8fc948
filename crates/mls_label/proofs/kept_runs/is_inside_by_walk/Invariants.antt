use Rattle.std.proofs.Common.{◌+◌, ◌↔◌, length}
use Rattle.mls_label.specs.inside.Kept.{AreApart}
use Rattle.mls_label.proofs.Inside.{IsInside}
use Rattle.mls_label.proofs.kept_runs.is_inside_by_walk.Given as goal

abbrev pub invariant-loop-inner : goal.invariant-loop-inner
invariant-loop-inner l = record {
  inner : AreApart 0 l.inner;
  outer : AreApart 0 l.outer;
  same : IsInside l.inner l.outer ↔ IsInside l.fn.inner l.fn.outer;
}

abbrev pub decreases-loop-inner : goal.decreases-loop-inner
decreases-loop-inner l = length l.inner + length l.outer
