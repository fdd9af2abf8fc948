-- A packet as one of the other version (RFC 7915, sections 4.1 and 5.1), with given addresses, label option and hops.
use Rattle.std.specs.Prelude.{ℕ, List, [], Option}
use Rattle.ip_headers.specs.declared.version.Version.{Version}
use Rattle.ip_headers.specs.declared.version.Version.TheVariants.{V4, V6}
use Rattle.ip_headers.specs.Packet.{ParsedPacket, Headers}
use Rattle.ip_headers.specs.Written.{first_option}
use Rattle.version_cross.specs.Checksum.{address_sum, crossed_segment}

-- the version that a packet crosses to
abbrev pub other_version : Version → Version
other_version V4 = V6
other_version V6 = V4

-- the flags of a packet that isn't to be fragmented, where its version has any
abbrev pub whole_flags : Version → ℕ
whole_flags V4 = 16384
whole_flags V6 = 0

-- The packet of the other version: the class stays, and the payload but for its checksum.
abbrev pub crossed : {L M : Type 0} → ParsedPacket L → List ℕ → List ℕ → Option M → ℕ → ParsedPacket M
crossed p source destination label hops = record {
  version = other_version p.version;
  class = p.class;
  identification = 0;
  flags_offset = whole_flags (other_version p.version);
  flow_label = 0;
  hops = hops;
  protocol = p.protocol;
  source = source;
  destination = destination;
  label = label;
  others = [];
  payload = crossed_segment p.protocol (address_sum p.source p.destination) (address_sum source destination) p.payload;
}

-- the same with the octets of a label option in their first place, or with none
abbrev pub crossed_with : {L : Type 0} → ParsedPacket L → List ℕ → List ℕ → Option (List ℕ) → ℕ → Headers
crossed_with p source destination option hops = crossed p source destination (first_option (other_version p.version) option) hops
