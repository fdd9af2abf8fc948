use Rattle.std.proofs.Common.{◌≡◌, ◌+◌, ◌-◌, ◌%◌, ◌≤◌, length, take}
use Rattle.label_flow.specs.Round.{pick, IsWork, IsLater}
use Rattle.label_flow.proofs.work.work.Given as goal

abbrev pub invariant-loop-at : goal.invariant-loop-at
invariant-loop-at g l = record {
  inside : l.at ≤ length l.packets;
  turn : l.turn ≡ (l.part.base + l.at) % l.part.workers;
  later : IsLater l.fn.viewer l.viewer;
  works : IsWork l.fn.viewer.plan l.worker.flow.now.hops l.fn.viewer.seen (pick l.worker.number l.part.workers l.part.base (take l.at l.packets)) l.bench l.viewer.seen;
}

abbrev pub decreases-loop-at : goal.decreases-loop-at
decreases-loop-at g l = length l.packets - l.at
