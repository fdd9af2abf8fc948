-- What a call answers of octets by a rule for packets.
use Rattle.std.specs.Prelude.{ℕ, List, Result, IfOk, OnOk}
use Rattle.mls_label.specs.declared.label.Label.{Label}
use Rattle.ip_headers.specs.Packet.{ParsedPacket}
use Rattle.packet_label.specs.declared.packet.Wire.{Wire}
use Rattle.packet_label.specs.declared.denial.Carrier.{Carrier}
use Rattle.packet_label.specs.declared.denial.Denial.{Denial}
use Rattle.packet_label.specs.declared.denial.Stop.{Stop}
use Rattle.label_receive.specs.Judged.{IsJudged}
use Rattle.label_send.specs.Answer.{Answers}
use Rattle.label_send.specs.Laws.{IsInRoom}
use Rattle.label_gateway.specs.declared.forwarding.Passed.{Passed}
use Rattle.label_gateway.specs.Forward.{Forwarded}

-- The call answers by the rule's verdict on what is read of the octets. A packet that went on may be written, within its room and its
-- length, so it is read as itself.
pub record AnswersOf {V : Type 0} (made : V → ParsedPacket Wire → Forwarded) (octets : List ℕ) (rule : ParsedPacket Wire → Result Forwarded Denial)
    (result : Result V Stop) (out : List ℕ) : Type 0 where
  pub verdict : Result Forwarded Denial
  pub judged : IsJudged octets rule verdict
  pub answers : Answers made verdict result out
  pub in_room : OnOk result (IfOk verdict (λ f. IsInRoom f.packet))

-- a packet that went on, by what the call answers and the label that it leaves
abbrev pub went_on : Label → Carrier → ParsedPacket Wire → Forwarded
went_on label carrier packet = record { carrier = carrier; label = label; packet = packet }

abbrev pub passed_on : Passed → ParsedPacket Wire → Forwarded
passed_on passed packet = went_on passed.label passed.carrier packet
