-- A label option as octets that are to be written.
use Rattle.std.specs.Prelude.{ℕ, List, Option}
use Rattle.std.specs.Option.{option_map}
use Rattle.ip_headers.specs.declared.version.Version.TheVariants as version
use Rattle.ip_headers.specs.Packet.{Headers}
use Rattle.ip_headers.specs.Written.{IsLabelOption, rewritten}
use Rattle.packet_label.specs.declared.packet.Packet.{Packet}
use Rattle.packet_label.specs.declared.packet.Packet.TheVariants.{V4, V6}
use Rattle.packet_label.specs.Packet.{headers_of}
use Rattle.packet_label.specs.declared.option.WireOption.{WireOption}
use Rattle.packet_label.specs.declared.option.WireOption.TheVariants.{Cipso, Calipso}

abbrev pub written_octets : WireOption → List ℕ
written_octets (Cipso octets) = octets.items
written_octets (Calipso octets) = octets.items

-- the option is of the packet's version, and its type and its length octet are right
abbrev pub Suits : Packet → WireOption → Type 0
Suits (V4 headers) (Cipso octets) = IsLabelOption version.V4 octets.items
Suits (V6 headers) (Calipso octets) = IsLabelOption version.V6 octets.items
Suits packet option = ⊥

-- the headers of a packet with this label option, or none, and these hops
abbrev pub rebuilt : Packet → Option WireOption → ℕ → Headers
rebuilt packet option hops = rewritten (headers_of packet) (option_map written_octets option) hops
