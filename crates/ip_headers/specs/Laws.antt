-- What is true of the definitions alone.
use Rattle.std.specs.Prelude.{◌≡◌, ℕ, ◌+◌, ◌≤◌, List, length, IfSome}
use Rattle.ip_headers.specs.declared.version.Version.{Version}
use Rattle.ip_headers.specs.declared.version.Version.TheVariants.{V4, V6}
use Rattle.ip_headers.specs.Options.{IsOption, type_octet, label_type}
use Rattle.ip_headers.specs.Packet.{Headers}
use Rattle.ip_headers.specs.Header4.{version_number}
use Rattle.ip_headers.specs.Reading.{packet_of}
use Rattle.ip_headers.specs.Written.{IsParsed, rebuilt_room, room_limit, rebuilt_length, packet_octets, next_packet}

-- the number of a version
abbrev pub nibble : Version → ℕ
nibble V4 = 4
nibble V6 = 6

-- a packet of this version, which its octets name, and whose label option is a whole one that stands in them
pub record StandsIn (version : Version) (octets : List ℕ) (p : Headers) : Type 0 where
  pub version_is : p.version ≡ version
  pub named : version_number octets ≡ nibble version
  pub label : IfSome p.label (λ o. IsOption version o.octets × (type_octet o.octets ≡ label_type version) × (o.place + length o.octets ≤ length octets))

-- what is written within its room and length is read as the packet that it then is
abbrev pub ReadsBack : Headers → Type 0
ReadsBack p = IsParsed p → rebuilt_room p ≤ room_limit p.version → rebuilt_length p ≤ 65535 → packet_of p.version (packet_octets p) ≡ next_packet p
