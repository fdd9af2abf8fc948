use Rattle.std.proofs.Common.{◌≡◌, ◌-◌, ◌≤◌, length, take}
use Rattle.label_flow.specs.packet_walk.inside.Way.{octets_behind}
use Rattle.label_flow.proofs.packet_walk.Walks.{GoesOn}
use Rattle.label_flow.proofs.packet_walk.walking.walk_hops.Given as goal

abbrev pub invariant-loop-at : goal.invariant-loop-at
invariant-loop-at g l = record {
  inside : l.at ≤ length l.hops;
  versions : l.at ≤ length l.walked.versions;
  board : l.viewer.board ≡ l.fn.viewer.board;
  plan : l.viewer.plan ≡ l.fn.viewer.plan;
  seen : l.fn.viewer.seen ≤ l.viewer.seen;
  goes : GoesOn l.fn.viewer.plan l.hops l.packet l.fn.viewer.seen l.at l.carrier (octets_behind l.at l.packet l.out.items) l.viewer.seen (take l.at l.walked.versions);
}

abbrev pub decreases-loop-at : goal.decreases-loop-at
decreases-loop-at g l = length l.hops - l.at
