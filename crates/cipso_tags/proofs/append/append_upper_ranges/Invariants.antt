use Rattle.std.proofs.Common.{◌≡◌, ◌≤◌, ◌<◌, ◌++◌, length, drop}
use Rattle.mls_label.specs.Runs.{runs_of}
use Rattle.cipso_tags.specs.Body.{words}
use Rattle.cipso_tags.specs.Text.{ends_down}
use Rattle.cipso_tags.proofs.append.append_upper_ranges.Given as goal

abbrev pub invariant-loop-left : goal.invariant-loop-left
invariant-loop-left g l = record {
  so_far : l.out.items ≡ l.fn.out.items ++ words (ends_down (drop l.left (runs_of l.cats)));
  within : l.left ≤ length (runs_of l.cats);
  lowest : 0 < length (runs_of l.cats) → 0 < l.left;
}

abbrev pub decreases-loop-left : goal.decreases-loop-left
decreases-loop-left g l = l.left
