-- The checksum of a segment: what it sums, and what becomes of it where the addresses change.
use Rattle.std.specs.Prelude.{ℕ, ◌+◌, ◌-◌, ◌*◌, ◌%◌, ◌&&◌, List, [], ◌∷◌, ◌++◌, length, take, drop, sum, ◌==◌, if◌then◌else◌}
use Rattle.std.specs.Int.{w16, w32, to_be_bytes}
use Rattle.ip_headers.specs.declared.version.Version.{Version}
use Rattle.ip_headers.specs.declared.version.Version.TheVariants.{V4, V6}
use Rattle.ip_headers.specs.Sum.{words_of}
use Rattle.ip_headers.specs.Packet.{ParsedPacket}
use Rattle.version_cross.specs.Segment.{is_udp, checksum_place, segment_checksum}

-- What a pseudo-header has behind the addresses: in version 4 zero, the protocol and the segment's length of 16 bits (RFC 793,
-- section 3.1; RFC 768), in version 6 the length of 32 bits, three zeros and the protocol (RFC 8200, section 8.1).
abbrev pub pseudo_tail : Version → ℕ → ℕ → List ℕ
pseudo_tail V4 protocol size = 0 ∷ protocol ∷ to_be_bytes w16 size
pseudo_tail V6 protocol size = to_be_bytes w32 size ++ (0 ∷ 0 ∷ 0 ∷ protocol ∷ [])

-- what is summed before the segment
abbrev pub pseudo_header : {L : Type 0} → ParsedPacket L → List ℕ
pseudo_header p = p.source ++ p.destination ++ pseudo_tail p.version p.protocol (length p.payload)

-- the sum of the words of pseudo-header and segment, modulo 65535: 0 where the segment verifies
abbrev pub checksum_sum : {L : Type 0} → ParsedPacket L → ℕ
checksum_sum p = sum (words_of (pseudo_header p ++ p.payload)) % 65535

-- the sum of the words of two addresses
abbrev pub address_sum : List ℕ → List ℕ → ℕ
address_sum source destination = sum (words_of source) + sum (words_of destination)

-- The checksum where so much goes out of the sum of words and so much comes in (RFC 1624, section 3, equation 3): its
-- complement is the number from 1 to 65535 that is congruent, modulo 65535, to the old complement with the new words and
-- without the old ones. To leave out n is to add 65534 times n.
abbrev pub updated_checksum : ℕ → ℕ → ℕ → ℕ
updated_checksum checksum old new = 65535 - (1 + (65535 - checksum + new + 65534 * old + 65534) % 65535)

-- UDP writes a checksum of 0 as all ones, since 0 says that there is none (RFC 768)
abbrev pub written_checksum : ℕ → ℕ → ℕ
written_checksum protocol checksum = if is_udp protocol && checksum == 0 then 65535 else checksum

-- a segment with this checksum in place of its own
abbrev pub with_checksum : ℕ → List ℕ → ℕ → List ℕ
with_checksum protocol segment checksum = take (checksum_place protocol) segment ++ to_be_bytes w16 checksum ++ drop (checksum_place protocol + 2) segment

-- a segment with its checksum updated for addresses whose words have another sum
unfoldable pub crossed_segment : ℕ → ℕ → ℕ → List ℕ → List ℕ
crossed_segment protocol old new segment = with_checksum protocol segment (written_checksum protocol (updated_checksum (segment_checksum protocol segment) old new))
