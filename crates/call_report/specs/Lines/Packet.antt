-- Lines of the packets of a capture that is shown.
use Rattle.std.specs.Prelude.{ℕ, ◌≡◌, List, ◌++◌, codes, Option, Some, None, MatchBool, Result, Ok, Err}
use Rattle.std.specs.Fmt.{decimal}
use Rattle.mls_range.specs.LabelText.{label_text}
use Rattle.cipso_tags.specs.Tag.{tag_type}
use Rattle.ip_headers.specs.Packet.{ParsedPacket}
use Rattle.packet_label.specs.declared.packet.Wire.{Wire}
use Rattle.packet_label.specs.declared.packet.Wire.TheVariants.{Cipso, Calipso}
use Rattle.packet_label.specs.declared.fault.CarryFault.{CarryFault}
use Rattle.packet_label.specs.declared.fault.CarryFault.TheVariants as carry
use Rattle.packet_label.specs.Written.{IsReadAs}
use Rattle.captures.specs.declared.packet_in.PacketIn.{PacketIn}
use Rattle.call_report.specs.Lines.Parts.{line_of, octet_detail}

-- what a label option says and where it stands, or that there is none
abbrev pub option_text : Option Wire → List ℕ
option_text None = codes "unlbl"
option_text (Some (Cipso at doi tag label)) =
    codes "cipsov4 doi " ++ decimal doi ++ codes " tag " ++ decimal (tag_type tag) ++ codes " " ++ label_text label ++ octet_detail at
option_text (Some (Calipso at doi label)) = codes "calipso doi " ++ decimal doi ++ codes " " ++ label_text label ++ octet_detail at

-- what a packet carries, or its first fault
abbrev pub packet_text : Result (ParsedPacket Wire) CarryFault → List ℕ
packet_text (Ok packet) = option_text packet.label
packet_text (Err (carry.Header octet)) = codes "BadHeader" ++ octet_detail octet
packet_text (Err (carry.Option octet)) = codes "BadOption" ++ octet_detail octet

-- the text of what a frame gave: what is read of its packet, or that it has no packet of IP
abbrev pub IsShown : PacketIn → List ℕ → Type 0
IsShown packet text =
    MatchBool packet.is_ip ((answer : Result (ParsedPacket Wire) CarryFault) × IsReadAs packet.bytes answer × (text ≡ packet_text answer)) (text ≡ codes "NotIp")

unfoldable pub shown_line : ℕ → List ℕ → List ℕ
shown_line number text = line_of (codes "packet " ++ decimal number ++ codes " " ++ text)

unfoldable pub shown_end_line : ℕ → List ℕ
shown_end_line count = line_of (codes "end packets " ++ decimal count)
