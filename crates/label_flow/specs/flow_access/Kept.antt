-- When a packet's label is kept along its way: each hop but the last says it in an option, and the next hop gives what the option says
-- the meaning that it had.
use Rattle.std.specs.Prelude.{ℕ, List, [], ◌∷◌, Result, IsSome}
use Rattle.ip_headers.specs.Packet.{ParsedPacket}
use Rattle.packet_label.specs.declared.fault.CarryFault.{CarryFault}
use Rattle.packet_label.specs.declared.packet.Wire.{Wire}
use Rattle.label_commands.specs.declared.flow_lines.hop.Hop.{Hop}
use Rattle.label_commands.specs.node_readings.Reading.{NamedMeanings}
use Rattle.label_flow.specs.node_agreement.Agreement.{Agree}
use Rattle.shared_tables.specs.Plan.{PlanState, network_after}
use Rattle.label_flow.specs.packet_walk.Walk.{Coming, from_outside, from_hop, octets_in, IsReadFrom, denied, goes_on, arrives, hop_verdict}
use Rattle.label_flow.specs.flow_access.Labels.{hop_tables, reading_at}

-- In the walk over these hops, each under its version, every hop that has another one behind it put the label into an option, as far as
-- the walk goes.
abbrev pub PutLabels : PlanState → List Hop → Coming → List ℕ → Type 0
PutLabels plan [] coming versions = Unit {0}
PutLabels plan (hop ∷ []) coming versions = Unit {0}
PutLabels plan (hop ∷ next ∷ hops) coming [] = Unit {0}
PutLabels plan (hop ∷ next ∷ hops) coming (version ∷ versions) =
    (read : Result (ParsedPacket Wire) CarryFault) × IsReadFrom coming read × elim (hop_verdict (network_after plan version) hop (octets_in coming) read) [
      | denied why ↦ Unit {0}
      | goes_on carrier packet ↦ IsSome packet.label × PutLabels plan (next ∷ hops) (from_hop carrier packet) versions
      | arrives delivered ↦ Unit {0}
    ]

-- Each two neighbouring hops that judged agree, each with the tables of its own version and its own reading.
abbrev pub NeighboursAgree : PlanState → List NamedMeanings → List Hop → List ℕ → Type 0
NeighboursAgree plan readings [] versions = Unit {0}
NeighboursAgree plan readings (hop ∷ []) versions = Unit {0}
NeighboursAgree plan readings (left ∷ right ∷ hops) [] = Unit {0}
NeighboursAgree plan readings (left ∷ right ∷ hops) (v ∷ []) = Unit {0}
NeighboursAgree plan readings (left ∷ right ∷ hops) (v ∷ w ∷ versions) =
    Agree (hop_tables plan v left) (hop_tables plan w right) (reading_at readings left) (reading_at readings right) × NeighboursAgree plan readings (right ∷ hops) (w ∷ versions)

-- of octets that come in, judged under these versions
pub record LabelIsKept (plan : PlanState) (readings : List NamedMeanings) (hops : List Hop) (octets versions : List ℕ) : Type 0 where
  pub put : PutLabels plan hops (from_outside octets) versions
  pub agree : NeighboursAgree plan readings hops versions
