use Rattle.std.proofs.Common.{◌≡◌, length, take}
use Rattle.label_flow.proofs.staff.crew_of.Given as goal

abbrev pub invariant-loop-viewer : goal.invariant-loop-viewer
invariant-loop-viewer g l = record {
  seens : l.seens.items ≡ take l.viewer-index l.viewers;
  benches : length l.benches.items ≡ l.viewer-index;
}
