-- What a packet says: its headers, and its label option.
use Rattle.std.specs.Prelude.{◌≡◌, ℕ, List, Option, Ok}
use Rattle.std.specs.Option.{option_map}
use Rattle.ip_headers.specs.declared.version.Version.{Version}
use Rattle.ip_headers.specs.declared.version.Version.TheVariants as version
use Rattle.ip_headers.specs.Options.{Placed}
use Rattle.ip_headers.specs.Packet.{ParsedPacket, Headers, relabelled}
use Rattle.packet_label.specs.declared.packet.Packet.{Packet}
use Rattle.packet_label.specs.declared.packet.Packet.TheVariants.{V4, V6}
use Rattle.packet_label.specs.declared.packet.Wire.{Wire}
use Rattle.packet_label.specs.Choice.{headers_in}
use Rattle.packet_label.specs.Wire.{OptionSays}

abbrev pub headers_of : Packet → Headers
headers_of (V4 headers) = headers
headers_of (V6 headers) = headers

abbrev pub version_of : Packet → Version
version_of (V4 headers) = version.V4
version_of (V6 headers) = version.V6

-- the headers in it are those of its version
abbrev pub IsOfItsVersion : Packet → Type 0
IsOfItsVersion packet = (headers_of packet).version ≡ version_of packet

-- the octet of the first label option's type
abbrev pub label_place : Packet → Option ℕ
label_place packet = option_map (λ (o : Placed). o.place) (headers_of packet).label

-- the packet with what its label option says in place of the option's octets
abbrev pub labelled : Headers → Option Wire → ParsedPacket Wire
labelled headers wire = relabelled headers wire headers.hops

-- the octets are a packet, and this is what it says: its headers are read, and its label option as a whole
pub record IsPacket (octets : List ℕ) (packet : ParsedPacket Wire) : Type 0 where
  pub headers : Headers
  pub reads : headers_in octets ≡ Ok headers
  pub option : OptionSays headers.version headers.label packet.label
  pub is : packet ≡ labelled headers packet.label
