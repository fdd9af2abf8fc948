-- The laws of src/laws.rt under their names, for the crates above.
use Rattle.std.proofs.Common.{◌≡◌, ℕ, false, List, [], ◌∷◌, Result, Ok}
use Rattle.std.specs.Prelude.{All, IsSome}
use Rattle.std.proofs.lemmas.List.Elements.{All-weaker}
use Rattle.mls_label.specs.declared.label.Label.{Label}
use Rattle.mls_label.specs.Label.{IsLabel}
use Rattle.ip_headers.specs.Packet.{ParsedPacket}
use Rattle.packet_label.specs.declared.denial.Carrier.{Carrier}
use Rattle.packet_label.specs.declared.fault.CarryFault.{CarryFault}
use Rattle.packet_label.specs.declared.packet.Wire.{Wire}
use Rattle.packet_label.specs.Written.{IsNext}
use Rattle.domain_map.specs.declared.protocol.Protocol.{Protocol}
use Rattle.script_lines.specs.Form.{Edition}
use Rattle.label_commands.specs.declared.flow_lines.hop.Hop.{Hop}
use Rattle.label_commands.specs.declared.flow_lines.flow.FlowLine.{FlowLine}
use Rattle.label_commands.specs.flow_lines.Hop.{is_send, node_of}
use Rattle.label_commands.specs.node_readings.Reading.{NamedMeanings}
use Rattle.label_commands.specs.node_readings.Meaning.{meaning_of}
use Rattle.node_tables.specs.Tables.{TableState}
use Rattle.node_tables.specs.Valid.{AreValid}
use Rattle.label_flow.specs.node_agreement.Agreement.{Agree}
use Rattle.label_send.specs.Outgoing.{outgoing}
use Rattle.label_commands.specs.declared.script.Script.{Script}
use Rattle.label_commands.specs.Script.{IsScript}
use Rattle.shared_tables.specs.Plan.{PlanState}
use Rattle.captures.specs.declared.packet_in.PacketIn.{PacketIn}
use Rattle.label_flow.specs.declared.packet_walk.walked.End.{End}
use Rattle.label_flow.specs.packet_walk.Walk.{goes_on, tables_of, hop_verdict, IsWalkOf}
use Rattle.label_flow.specs.Pair.{PairState}
use Rattle.label_flow.specs.Walked.{AreWalked}
use Rattle.label_flow.specs.flow_access.Access.{HaveAccess}
use Rattle.label_flow.specs.flow_access.Labels.{hop_label}
use Rattle.label_flow.specs.flow_access.Kept.{LabelIsKept}
use Rattle.label_flow.specs.flow_access.Sound.{IsSound}
use Rattle.label_flow.specs.flow_access.Valid.{plan_of, IsValidFlow}
use Rattle.label_flow.proofs.flow_access.Hops.{says_label}
use Rattle.label_flow.proofs.flow_access.Links.{labelled}
use Rattle.label_flow.proofs.flow_access.Scripts.{script_flows_valid}
use Rattle.label_flow.proofs.flow_access.Walks.{sound}
-- terms over any relation between meanings, which no clause can state
pub use Rattle.label_flow.proofs.flow_access.Along.{GoesWell, DeliversWell, ArrivesWell, arrives_well}

pub hops_say_their_label : (network : List TableState) (hop : Hop) (octets : List ℕ) (read : Result (ParsedPacket Wire) CarryFault) (carrier : Carrier) (packet : ParsedPacket Wire) (x : Label)
    → hop_verdict network hop octets read ≡ goes_on carrier packet → hop_label (tables_of network (node_of hop)) hop read ≡ Ok x
    → (protocol : Protocol) × (outgoing (tables_of network (node_of hop)).definitions protocol x ≡ Ok packet.label)
hops_say_their_label = says_label

pub options_keep_meanings : (a b : TableState) (a_named b_named : NamedMeanings) (protocol : Protocol) (packet : ParsedPacket Wire) (next : Hop) (later : Result (ParsedPacket Wire) CarryFault) (x y : Label)
    → AreValid a → AreValid b → Agree a b a_named b_named → IsLabel x → outgoing a.definitions protocol x ≡ Ok packet.label → IsSome packet.label → is_send next ≡ false → IsNext packet later → hop_label b next later ≡ Ok y
    → (meaning_of b_named y ≡ meaning_of a_named x) × IsLabel y
options_keep_meanings = labelled

pub kept_is_sound : (plan : PlanState) (readings : List NamedMeanings) (hops : List Hop) (packet : PacketIn) (versions : List ℕ) (end : End) (out : List ℕ) → IsValidFlow plan readings hops → IsWalkOf plan hops packet versions end out
    → LabelIsKept plan readings hops packet.bytes versions → IsSound plan readings hops packet.bytes versions end
kept_is_sound = sound

pub walked_packets_have_access : (plan : PlanState) (readings : List NamedMeanings) (hops : List Hop) (packets : List PacketIn) (pairs : List PairState) → IsValidFlow plan readings hops → AreWalked plan hops packets pairs
    → HaveAccess plan readings hops packets pairs
walked_packets_have_access plan readings hops packets [] valid walked = tt
walked_packets_have_access plan readings hops [] (pair ∷ pairs) valid walked = absurd walked
walked_packets_have_access plan readings hops (packet ∷ packets) (pair ∷ pairs) valid walked =
    (sound plan readings hops packet pair.walked.versions pair.walked.end pair.octets valid walked.0, walked_packets_have_access plan readings hops packets pairs valid walked.1)

pub flows_of_scripts_are_valid : (edition : Edition) (own text : List ℕ) (script : Script) → IsScript edition own text script → All (λ (flow : FlowLine). IsValidFlow (plan_of script) script.readings flow.hops) script.flows
flows_of_scripts_are_valid = script_flows_valid

pub packets_of_scripts_have_access : (edition : Edition) (own text : List ℕ) (script : Script) (packets : List PacketIn) (pairs : List PairState) → IsScript edition own text script
    → All (λ (flow : FlowLine). AreWalked (plan_of script) flow.hops packets pairs → HaveAccess (plan_of script) script.readings flow.hops packets pairs) script.flows
packets_of_scripts_have_access edition own text script packets pairs is =
    All-weaker (λ (flow : FlowLine). IsValidFlow (plan_of script) script.readings flow.hops) (λ (flow : FlowLine). AreWalked (plan_of script) flow.hops packets pairs → HaveAccess (plan_of script) script.readings flow.hops packets pairs)
    (λ flow valid. walked_packets_have_access (plan_of script) script.readings flow.hops packets pairs valid) script.flows (script_flows_valid edition own text script is)
