-- The header of version 6 (RFC 8200, section 3), and the Hop-by-Hop Options header that may follow it at
-- octet 40 (sections 4.1 and 4.3).
use Rattle.std.specs.Prelude.{ℕ, ◌+◌, ◌-◌, ◌*◌, ◌/◌, ◌%◌, Bool, not, ◌&&◌, List, take, Option, None, length, slice_index, slice_range, nat_lt, ◌==◌, if◌then◌else◌}
use Rattle.ip_headers.specs.declared.version.Version.TheVariants.{V6}
use Rattle.ip_headers.specs.declared.fault.HeadFault.{HeadFault}
use Rattle.ip_headers.specs.declared.fault.HeadKind.TheVariants.{Short, Version, HeaderLength, TotalLength}
use Rattle.mls_label.specs.octet_grammar.Numbers.{u16_at}
use Rattle.ip_headers.specs.Options.{Placed}
use Rattle.ip_headers.specs.Packet.{Headers}
use Rattle.ip_headers.specs.Header4.{version_number, fault_at}

-- how many octets follow octet 40
abbrev pub payload_length : List ℕ → ℕ
payload_length octets = u16_at octets 4

-- next header 0: a Hop-by-Hop header follows
abbrev pub has_hop_by_hop : List ℕ → Bool
has_hop_by_hop octets = slice_index octets 6 == 0

-- The length of the Hop-by-Hop header, 0 where there is none. Its second octet counts units of eight
-- octets after the first eight.
abbrev pub hop_by_hop_length : List ℕ → ℕ
hop_by_hop_length octets = if has_hop_by_hop octets then (slice_index octets 41 + 1) * 8 else 0

-- the first test that fails before the options are read
unfoldable pub fixed_fault6 : List ℕ → Option HeadFault
fixed_fault6 octets =
    if nat_lt (length octets) 40 then fault_at (length octets) Short else
    (if not (version_number octets == 6) then fault_at 0 Version else
    (if nat_lt (length octets - 40) (payload_length octets) then fault_at 4 TotalLength else
    (if has_hop_by_hop octets && nat_lt (payload_length octets) 8 then fault_at 4 TotalLength else
    (if nat_lt (payload_length octets) (hop_by_hop_length octets) then fault_at 41 HeaderLength else
    None))))

-- the header and the Hop-by-Hop header
abbrev pub head6 : List ℕ → List ℕ
head6 octets = take (40 + hop_by_hop_length octets) octets

-- what follows the Hop-by-Hop header
abbrev pub payload6 : List ℕ → List ℕ
payload6 octets = slice_range octets (40 + hop_by_hop_length octets) (40 + payload_length octets)

-- what the headers' octets say, with these options and this payload
abbrev pub parsed6 : List ℕ → Option Placed → List Placed → List ℕ → Headers
parsed6 head label others payload = record {
  version = V6;
  class = 16 * (slice_index head 0 % 16) + slice_index head 1 / 16;
  identification = 0;
  flags_offset = 0;
  flow_label = 65536 * (slice_index head 1 % 16) + u16_at head 2;
  hops = slice_index head 7;
  protocol = if has_hop_by_hop head then slice_index head 40 else slice_index head 6;
  source = slice_range head 8 24;
  destination = slice_range head 24 40;
  label = label;
  others = others;
  payload = payload;
}
