use Rattle.std.proofs.Common.{◌≡◌, ℕ, ◌-◌, ◌<◌, ◌≤◌, max, length, get_or}
use Rattle.shared_tables.specs.Board.{ViewerState}
use Rattle.label_flow.proofs.staff.learn_all.Given as goal

abbrev pub invariant-loop-at : goal.invariant-loop-at
invariant-loop-at g l = record {
  inside : l.at ≤ length l.viewers;
  same : length l.viewers ≡ length l.fn.viewers;
  mine : (k : ℕ) (d : ViewerState) → k < l.at → get_or l.viewers k d ≡ record (get_or l.fn.viewers k d) { seen = max (get_or l.fn.viewers k d).seen (get_or l.seens k d).seen };
  others : (k : ℕ) (d : ViewerState) → l.at ≤ k → get_or l.viewers k d ≡ get_or l.fn.viewers k d;
}

abbrev pub decreases-loop-at : goal.decreases-loop-at
decreases-loop-at g l = length l.viewers - l.at
