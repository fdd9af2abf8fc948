use Rattle.std.proofs.Common.{◌≡◌, ℕ, ◌-◌, ◌<◌, ◌≤◌, [], length, get_or}
use Rattle.shared_tables.specs.Board.{ViewerState}
use Rattle.label_flow.specs.Round.{IsLater, AreLater}
use Rattle.label_flow.specs.inside.Crew.{IsShare}
use Rattle.label_flow.proofs.crew.gather.Given as goal

abbrev pub invariant-loop-at : goal.invariant-loop-at
invariant-loop-at g l = record {
  viewer : IsLater l.fn.viewer l.viewer;
  inside : l.at ≤ length l.fn.crew.seens.items;
  seens : length l.crew.seens.items ≡ length l.fn.crew.seens.items;
  benches : length l.crew.benches.items ≡ length l.fn.crew.benches.items;
  grown : AreLater l.fn.crew.seens.items l.crew.seens.items;
  mine : (k : ℕ) (d : ViewerState) → k < l.at
      → IsShare g.A.Agreed.hops g.A.Agreed.left k l.part.workers l.part.base l.part.count (get_or l.fn.crew.seens.items k d) (get_or l.crew.benches.items k []) (get_or l.crew.seens.items k d);
  others : (k : ℕ) (d : ViewerState) → l.at ≤ k → get_or l.crew.seens.items k d ≡ get_or l.fn.crew.seens.items k d;
}

abbrev pub decreases-loop-at : goal.decreases-loop-at
decreases-loop-at g l = length l.fn.crew.seens.items - l.at
