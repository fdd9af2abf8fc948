-- What became of packets, one after the other, each by the walk under its own versions.
use Rattle.std.specs.Prelude.{List, length, take}
use Rattle.std.specs.List.{AllZip}
use Rattle.label_commands.specs.declared.flow_lines.hop.Hop.{Hop}
use Rattle.shared_tables.specs.Plan.{PlanState}
use Rattle.captures.specs.declared.packet_in.PacketIn.{PacketIn}
use Rattle.label_flow.specs.packet_walk.Walk.{IsWalkOf}
use Rattle.label_flow.specs.Pair.{PairState}

-- each of these is what became of one of the first packets, in their order
abbrev pub AreWalked : PlanState → List Hop → List PacketIn → List PairState → Type 0
AreWalked plan hops packets pairs =
    AllZip (λ packet pair. IsWalkOf plan hops packet pair.walked.versions pair.walked.end pair.octets) (take (length pairs) packets) pairs
