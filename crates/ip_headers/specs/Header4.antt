-- The header of version 4 (RFC 791, section 3.1).
use Rattle.std.specs.Prelude.{ℕ, ◌*◌, ◌/◌, ◌%◌, not, ◌||◌, List, take, Option, Some, None, length, slice_index, slice_range, nat_lt, ◌==◌, if◌then◌else◌}
use Rattle.ip_headers.specs.declared.version.Version.TheVariants.{V4}
use Rattle.ip_headers.specs.declared.fault.HeadFault.{HeadFault}
use Rattle.ip_headers.specs.declared.fault.HeadKind.{HeadKind}
use Rattle.ip_headers.specs.declared.fault.HeadKind.TheVariants.{Short, Version, HeaderLength, TotalLength, Checksum}
use Rattle.mls_label.specs.octet_grammar.Numbers.{u16_at}
use Rattle.ip_headers.specs.Sum.{ones_sum}
use Rattle.ip_headers.specs.Options.{Placed}
use Rattle.ip_headers.specs.Packet.{Headers}

-- the number that names the version, in a packet of either version
abbrev pub version_number : List ℕ → ℕ
version_number octets = slice_index octets 0 / 16

-- IHL counts words of four octets
abbrev pub header_length : List ℕ → ℕ
header_length octets = 4 * (slice_index octets 0 % 16)

-- the whole packet by its length field
abbrev pub total_length : List ℕ → ℕ
total_length octets = u16_at octets 2

-- a fault at this octet
abbrev pub fault_at : ℕ → HeadKind → Option HeadFault
fault_at octet kind = Some (record { octet = octet; kind = kind })

-- the first test that fails before the options are read
unfoldable pub fixed_fault4 : List ℕ → Option HeadFault
fixed_fault4 octets =
    if nat_lt (length octets) 20 then fault_at (length octets) Short else
    (if not (version_number octets == 4) then fault_at 0 Version else
    (if nat_lt (header_length octets) 20 then fault_at 0 HeaderLength else
    (if nat_lt (total_length octets) (header_length octets) || nat_lt (length octets) (total_length octets) then fault_at 2 TotalLength else
    (if not (ones_sum (take (header_length octets) octets) == 65535) then fault_at 10 Checksum else
    None))))

-- the header with its options
abbrev pub head4 : List ℕ → List ℕ
head4 octets = take (header_length octets) octets

-- what stands behind the header, up to the total length
abbrev pub payload4 : List ℕ → List ℕ
payload4 octets = slice_range octets (header_length octets) (total_length octets)

-- what the header's octets say, with these options and this payload
abbrev pub parsed4 : List ℕ → Option Placed → List Placed → List ℕ → Headers
parsed4 head label others payload = record {
  version = V4;
  class = slice_index head 1;
  identification = u16_at head 4;
  flags_offset = u16_at head 6;
  flow_label = 0;
  hops = slice_index head 8;
  protocol = slice_index head 9;
  source = slice_range head 12 16;
  destination = slice_range head 16 20;
  label = label;
  others = others;
  payload = payload;
}
