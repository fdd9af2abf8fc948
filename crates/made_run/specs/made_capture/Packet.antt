-- The packet that is made from a number.
use Rattle.std.specs.Prelude.{ℕ, ◌/◌, ◌%◌, ◌^◌, List, [], ◌∷◌, Some}
use Rattle.std.specs.Int.{w16, to_be_bytes}
use Rattle.mls_label.specs.declared.label.Label.{Label}
use Rattle.mls_label.specs.declared.label.Tag.TheVariants.{One}
use Rattle.mls_label.specs.category_bitmap.Bitmap.{bitmap_cats}
use Rattle.cipso_option.specs.Text.{cipso_text}
use Rattle.ip_headers.specs.declared.fields.Fields4.{Fields4}
use Rattle.ip_headers.specs.Packet.{ParsedPacket, Headers}
use Rattle.ip_headers.specs.Fields.{packet4}
use Rattle.ip_headers.specs.Written.{packet_octets}
use Rattle.packet_label.specs.declared.packet.Wire.{Wire}
use Rattle.packet_label.specs.declared.packet.Wire.TheVariants.{Cipso}
use Rattle.packet_label.specs.Packet.{labelled}

-- UDP (RFC 768) from port 1000 to port 53: eight octets, no data, no checksum
abbrev pub empty_datagram : List ℕ
empty_datagram = 0x03 ∷ 0xe8 ∷ 0x00 ∷ 0x35 ∷ 0x00 ∷ 0x08 ∷ 0x00 ∷ 0x00 ∷ []

-- from 10.0.0.n to 10.0.0.2
abbrev pub datagram_fields : ℕ → Fields4
datagram_fields n = record { tos = 0; id = 0; flags_offset = 0; hops = 64; protocol = 17; source = 10 ∷ 0 ∷ 0 ∷ n ∷ []; destination = 10 ∷ 0 ∷ 0 ∷ 2 ∷ [] }

-- the datagram from 10.0.0.n with this option in its header
abbrev pub datagram_with : ℕ → List ℕ → Headers
datagram_with n option = packet4 (datagram_fields n) (Some option) [] empty_datagram

-- the label of a number: a level from 0 to 3, and the categories of a bitmap of two octets
abbrev pub label_made : ℕ → Label
label_made x = record { level = (x / 2 ^ 56) % 4; cats = bitmap_cats (to_be_bytes w16 ((x / 2 ^ 40) % 2 ^ 16)) }

-- the headers of the packet of a number: its label in tag 1 under DOI 16
abbrev pub headers_made : ℕ → Headers
headers_made x = datagram_with ((x / 2 ^ 32) % 256) (cipso_text 16 One (label_made x))

-- its octets
unfoldable pub packet_made : ℕ → List ℕ
packet_made x = packet_octets (headers_made x)

-- what it says: its label stands at octet 20
abbrev pub packet_said : ℕ → ParsedPacket Wire
packet_said x = labelled (headers_made x) (Some (Cipso 20 16 One (label_made x)))
