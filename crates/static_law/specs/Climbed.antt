-- Static labels and the packets of a flow, each under the versions that it was judged by.
use Rattle.std.specs.Prelude.{List, [], ◌∷◌}
use Rattle.label_commands.specs.declared.flow_lines.hop.Hop.{Hop}
use Rattle.label_commands.specs.node_readings.Reading.{NamedMeanings}
use Rattle.shared_tables.specs.Plan.{PlanState}
use Rattle.captures.specs.declared.packet_in.PacketIn.{PacketIn}
use Rattle.label_flow.specs.Pair.{PairState}
use Rattle.static_law.specs.Covered.{NeighboursCovered}
use Rattle.static_law.specs.Climbs.{Climbs}

-- each of the first packets that was judged climbs where every two neighbouring hops were covered
abbrev pub HaveClimbed : PlanState → List NamedMeanings → List Hop → List PacketIn → List PairState → Type 0
HaveClimbed plan readings hops packets [] = Unit {0}
HaveClimbed plan readings hops [] (pair ∷ pairs) = ⊥
HaveClimbed plan readings hops (packet ∷ packets) (pair ∷ pairs) =
    (NeighboursCovered plan readings hops pair.walked.versions → Climbs plan readings hops packet.bytes pair.walked.versions pair.walked.end)
    × HaveClimbed plan readings hops packets pairs
