-- What was appended of a packet is the packet's text.
use Rattle.std.proofs.Common.{◌≡◌, ℕ, Bool, true, List, ◌++◌, Result, Ok, Err, refl, sym, subst}
use Rattle.std.specs.Prelude.{OnOk, MatchBool, codes}
use Rattle.ip_headers.specs.Packet.{ParsedPacket}
use Rattle.packet_label.specs.declared.fault.CarryFault.{CarryFault}
use Rattle.packet_label.specs.declared.packet.Wire.{Wire}
use Rattle.packet_label.specs.Written.{IsReadAs}
use Rattle.captures.specs.declared.packet_in.PacketIn.{PacketIn}
use Rattle.call_report.specs.Lines.Packet.{packet_text, IsShown}

abbrev IsShownBy : Bool → List ℕ → List ℕ → Type 0
IsShownBy is_ip bytes text = MatchBool is_ip ((answer : Result (ParsedPacket Wire) CarryFault) × IsReadAs bytes answer × (text ≡ packet_text answer)) (text ≡ codes "NotIp")

pub shows_packet : {T E : Type 0} (result : Result T E) (packet : PacketIn) (octets old new : List ℕ) (answer : Result (ParsedPacket Wire) CarryFault) → packet.is_ip ≡ true → octets ≡ packet.bytes
    → IsReadAs octets answer → OnOk result (new ≡ old ++ packet_text answer) → OnOk result ((text : List ℕ) × IsShown packet text × (new ≡ old ++ text))
shows_packet (Ok x) packet octets old new answer is same reads written =
    (packet_text answer, subst (λ (b : Bool). IsShownBy b packet.bytes (packet_text answer)) (sym is) (answer, subst (λ (bytes : List ℕ). IsReadAs bytes answer) same reads, refl), written)
shows_packet (Err e) packet octets old new answer is same reads written = tt
