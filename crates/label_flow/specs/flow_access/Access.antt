-- Access of the packets of a flow, each under the versions that it was judged by.
use Rattle.std.specs.Prelude.{List, [], ◌∷◌}
use Rattle.label_commands.specs.declared.flow_lines.hop.Hop.{Hop}
use Rattle.label_commands.specs.node_readings.Reading.{NamedMeanings}
use Rattle.shared_tables.specs.Plan.{PlanState}
use Rattle.captures.specs.declared.packet_in.PacketIn.{PacketIn}
use Rattle.label_flow.specs.Pair.{PairState}
use Rattle.label_flow.specs.flow_access.Kept.{LabelIsKept}
use Rattle.label_flow.specs.flow_access.Sound.{IsSound}

-- each of the first packets that was judged: where its label was kept along its way, what was delivered is sound
abbrev pub HaveAccess : PlanState → List NamedMeanings → List Hop → List PacketIn → List PairState → Type 0
HaveAccess plan readings hops packets [] = Unit {0}
HaveAccess plan readings hops [] (pair ∷ pairs) = ⊥
HaveAccess plan readings hops (packet ∷ packets) (pair ∷ pairs) =
    (LabelIsKept plan readings hops packet.bytes pair.walked.versions → IsSound plan readings hops packet.bytes pair.walked.versions pair.walked.end)
    × HaveAccess plan readings hops packets pairs
