use Rattle.std.proofs.Common.{◌≡◌, ◌-◌, ◌≤◌, ℕ, length, take, drop}
use Rattle.label_flow.specs.packet_walk.Walk.{Rises}
use Rattle.label_flow.specs.packet_walk.inside.Way.{octets_behind}
use Rattle.label_flow.proofs.packet_walk.Walks.{GoesOn}
use Rattle.label_flow.proofs.packet_walk.ByVersions.{ComesBack}
use Rattle.label_flow.proofs.packet_walk.named.walk_hops_named.Given as goal

abbrev pub invariant-loop-at : goal.invariant-loop-at
invariant-loop-at l = record {
  inside : l.at ≤ length l.hops;
  named : l.at ≤ length l.versions;
  judged : l.at ≤ length l.walked.versions;
  plan : l.tables.plan ≡ l.fn.tables.plan;
  later : l.fn.tables.version ≤ l.tables.version;
  same : take l.at l.walked.versions ≡ take l.at l.versions;
  rises : (high : ℕ) → Rises l.fn.tables.version high l.versions → Rises l.tables.version high (drop l.at l.versions);
  goes : GoesOn l.fn.tables.plan l.hops l.packet l.fn.tables.version l.at l.carrier (octets_behind l.at l.packet l.out.items) l.tables.version (take l.at l.versions);
  back : ComesBack l.fn.tables.plan l.hops l.packet l.versions l.at l.carrier (octets_behind l.at l.packet l.out.items);
}

abbrev pub decreases-loop-at : goal.decreases-loop-at
decreases-loop-at l = length l.hops - l.at
