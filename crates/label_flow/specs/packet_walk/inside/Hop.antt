-- What the code answers at one hop.
use Rattle.std.specs.Prelude.{◌≡◌, ℕ, ◌≤◌, List, length, Result}
use Rattle.mls_label.specs.declared.label.Label.{Label}
use Rattle.ip_headers.specs.Packet.{ParsedPacket}
use Rattle.ip_headers.specs.Written.{packet_octets}
use Rattle.packet_label.specs.declared.denial.Stop.{Stop}
use Rattle.packet_label.specs.declared.denial.Stop.TheVariants as stop
use Rattle.packet_label.specs.declared.fault.CarryFault.{CarryFault}
use Rattle.packet_label.specs.declared.packet.Wire.{Wire}
use Rattle.packet_label.specs.Written.{IsNext, IsReadAs, written}
use Rattle.label_commands.specs.declared.flow_lines.hop.Hop.{Hop}
use Rattle.shared_tables.specs.Plan.{PlanState, network_after}
use Rattle.label_flow.specs.declared.packet_walk.hop.Given.{Given}
use Rattle.label_flow.specs.declared.packet_walk.hop.Given.TheVariants.{Goes, Arrives, Denied, OutOfMemory}
use Rattle.label_flow.specs.packet_walk.Walk.{HopVerdict, denied, goes_on, arrives, hop_verdict}

-- the octets of a packet that was written are read as the packet that it then is
abbrev pub ReadsBack : ParsedPacket Wire → Type 0
ReadsBack packet = (read : Result (ParsedPacket Wire) CarryFault) → IsReadAs (packet_octets (written packet)) read → IsNext packet read

-- a verdict, as it is answered with a label and the octets of a packet that goes on
abbrev pub Answered : HopVerdict → Given → Label → List ℕ → Type 0
Answered verdict (Goes carrier) label out =
    (packet : ParsedPacket Wire) × (verdict ≡ goes_on carrier packet) × (out ≡ packet_octets (written packet)) × ReadsBack packet × (length out ≤ 65575)
Answered verdict (Arrives receiver) label out = verdict ≡ arrives (record { label = label; receiver = receiver })
Answered verdict (Denied why) label out = verdict ≡ denied why
Answered verdict OutOfMemory label out = Unit {0}

-- the answer of a call that writes no packet
abbrev pub stopped_as : Stop → Given
stopped_as (stop.Denied why) = Denied why
stopped_as stop.OutOfMemory = OutOfMemory

-- the verdict on what is read of the octets, as it is answered
pub record AnsweredOf (octets : List ℕ) (verdict : Result (ParsedPacket Wire) CarryFault → HopVerdict) (given : Given) (label : Label)
    (out : List ℕ) : Type 0 where
  pub read : Result (ParsedPacket Wire) CarryFault
  pub reads : IsReadAs octets read
  pub answered : Answered (verdict read) given label out

-- one hop was judged under version `now`, by one who had seen version `seen` before
pub record HasJudged (plan : PlanState) (seen now : ℕ) (hop : Hop) (octets : List ℕ) (given : Given) (label : Label) (out : List ℕ) : Type 0 where
  pub later : seen ≤ now
  pub within : now ≤ length plan.steps
  pub gave : AnsweredOf octets (hop_verdict (network_after plan now) hop octets) given label out
