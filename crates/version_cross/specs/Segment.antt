-- Segments of TCP (RFC 793, section 3.1) and of UDP (RFC 768).
use Rattle.std.specs.Prelude.{ℕ, Bool, ◌||◌, List, ◌==◌, if◌then◌else◌}
use Rattle.mls_label.specs.octet_grammar.Numbers.{u16_at}

-- UDP is protocol 17
abbrev pub is_udp : ℕ → Bool
is_udp protocol = protocol == 17

-- TCP, which is protocol 6, or UDP
abbrev pub is_transport : ℕ → Bool
is_transport protocol = protocol == 6 || is_udp protocol

-- how long a segment is at least: its header without options
abbrev pub segment_minimum : ℕ → ℕ
segment_minimum protocol = if is_udp protocol then 8 else 20

-- the octet at which its checksum stands
abbrev pub checksum_place : ℕ → ℕ
checksum_place protocol = if is_udp protocol then 6 else 16

-- the checksum that stands there
abbrev pub segment_checksum : ℕ → List ℕ → ℕ
segment_checksum protocol segment = u16_at segment (checksum_place protocol)
