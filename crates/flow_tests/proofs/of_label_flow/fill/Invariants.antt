use Rattle.std.proofs.Common.{◌≡◌, ◌-◌, ◌≤◌, length, All}
use Rattle.captures.specs.declared.packet_in.PacketIn.{PacketIn}
use Rattle.flow_tests.proofs.of_label_flow.fill.Given as goal

abbrev pub invariant-loop-made : goal.invariant-loop-made
invariant-loop-made l = record {
  count : length l.batch.items ≡ l.made;
  low : l.made ≤ l.count;
  short : All (λ (packet : PacketIn). length packet.bytes ≤ 262144) l.batch.items;
}

abbrev pub decreases-loop-made : goal.decreases-loop-made
decreases-loop-made l = l.count - l.made
