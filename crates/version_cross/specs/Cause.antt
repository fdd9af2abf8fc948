-- Why a packet can't be written as one of the other version.
use Rattle.std.specs.Prelude.{ℕ, ◌%◌, Bool, false, not, ◌&&◌, List, length, Option, Some, None, nat_lt, ◌==◌, if◌then◌else◌}
use Rattle.ip_headers.specs.declared.version.Version.{Version}
use Rattle.ip_headers.specs.declared.version.Version.TheVariants.{V4, V6}
use Rattle.ip_headers.specs.declared.cause.Cause.{Cause}
use Rattle.ip_headers.specs.declared.cause.Cause.TheVariants.{Protocol, Fragment, Options, Segment, NoChecksum}
use Rattle.ip_headers.specs.Options.{has_any}
use Rattle.ip_headers.specs.Packet.{ParsedPacket}
use Rattle.version_cross.specs.Segment.{is_udp, is_transport, segment_minimum, segment_checksum}

-- A fragment of version 4 has an offset, the low thirteen bits, or the flag above them that more fragments follow (RFC 791,
-- section 3.1). In version 6 a fragment has a header of its own in front, which is neither TCP nor UDP.
abbrev pub is_fragment : Version → ℕ → Bool
is_fragment V4 flags_offset = not (flags_offset % 16384 == 0)
is_fragment V6 flags_offset = false

-- the first cause, for a packet with this protocol, that is a fragment or has other options or not, with this payload
unfoldable pub first_cause : ℕ → Bool → Bool → List ℕ → Option Cause
first_cause protocol fragment others payload =
    if not (is_transport protocol) then Some Protocol else
    (if fragment then Some Fragment else
    (if others then Some Options else
    (if nat_lt (length payload) (segment_minimum protocol) then Some Segment else
    (if is_udp protocol && segment_checksum protocol payload == 0 then Some NoChecksum else
    None))))

-- the first cause why a packet can't cross, or none
abbrev pub cross_cause : {L : Type 0} → ParsedPacket L → Option Cause
cross_cause p = first_cause p.protocol (is_fragment p.version p.flags_offset) (has_any p.others) p.payload
