-- The label under which a hop judges a packet, and what it means there.
use Rattle.std.specs.Prelude.{ℕ, List, [], ◌∷◌, slice_get, unwrap_or, Result, Ok, Err}
use Rattle.mls_label.specs.declared.label.Label.{Label}
use Rattle.ip_headers.specs.Packet.{ParsedPacket}
use Rattle.packet_label.specs.declared.denial.Denial.{Denial}
use Rattle.packet_label.specs.declared.fault.CarryFault.{CarryFault}
use Rattle.packet_label.specs.declared.packet.Wire.{Wire}
use Rattle.label_commands.specs.declared.flow_lines.hop.Hop.{Hop}
use Rattle.label_commands.specs.declared.flow_lines.hop.Hop.TheVariants.{Send, Forward, Receive}
use Rattle.label_commands.specs.flow_lines.Hop.{node_of}
use Rattle.label_commands.specs.node_readings.Reading.{NamedMeanings}
use Rattle.node_tables.specs.Tables.{TableState}
use Rattle.label_commands.specs.Script.{no_meanings}
use Rattle.label_receive.specs.Incoming.{Incoming, label_of}
use Rattle.label_receive.specs.Judged.{judged_by}
use Rattle.shared_tables.specs.Plan.{PlanState, network_after}
use Rattle.label_flow.specs.packet_walk.Walk.{tables_of}

-- the high label of what comes in
abbrev pub high_of : Result Incoming Denial → Result Label Denial
high_of (Ok incoming) = Ok incoming.high
high_of (Err why) = Err why

-- the high label of what comes in at an interface, or why it has none
abbrev pub taken_at : TableState → List ℕ → Result (ParsedPacket Wire) CarryFault → Result Label Denial
taken_at t interface read = judged_by (λ p. high_of (label_of t interface p)) read

-- In the node's own numbers: a hop that sends names the label, and any other takes it from what is read of the packet.
abbrev pub hop_label : TableState → Hop → Result (ParsedPacket Wire) CarryFault → Result Label Denial
hop_label t (Send node domain interface label) read = Ok label
hop_label t (Forward node from to domain) read = taken_at t from read
hop_label t (Receive node interface) read = taken_at t interface read

-- the tables of a hop's node after so many steps
abbrev pub hop_tables : PlanState → ℕ → Hop → TableState
hop_tables plan version hop = tables_of (network_after plan version) (node_of hop)

-- the reading of a hop's node, which is each number itself where there is none
abbrev pub reading_at : List NamedMeanings → Hop → NamedMeanings
reading_at readings hop = unwrap_or (slice_get readings (node_of hop)) no_meanings

-- the reading of the first hop's node
abbrev pub first_reading : List NamedMeanings → List Hop → NamedMeanings
first_reading readings [] = no_meanings
first_reading readings (hop ∷ hops) = reading_at readings hop
