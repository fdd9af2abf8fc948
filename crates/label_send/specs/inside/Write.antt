-- Headers that are to be written.
use Rattle.std.specs.Prelude.{◌≡◌, ℕ, nat_lt, List, [], Option, Some, None, Result, Ok, Err, if◌then◌else◌}
use Rattle.ip_headers.specs.declared.version.Version.{Version}
use Rattle.ip_headers.specs.Packet.{Headers}
use Rattle.ip_headers.specs.Written.{packet_octets, rebuilt_length, rebuilt_room, room_limit}
use Rattle.packet_label.specs.declared.denial.Denial.{Denial}
use Rattle.packet_label.specs.declared.denial.Denial.TheVariants.{NoRoom, TooLong}
use Rattle.packet_label.specs.declared.denial.Stop.{Stop}
use Rattle.packet_label.specs.declared.denial.Stop.TheVariants.{Denied, OutOfMemory}

-- why they can't be written
abbrev pub room_denial : Version → Headers → Option Denial
room_denial version h =
    if nat_lt (room_limit version) (rebuilt_room h) then Some NoRoom
    else if nat_lt 65535 (rebuilt_length h) then Some TooLong
    else None

-- they are written, or not for that reason, or for want of memory
abbrev pub Writes : Version → Headers → Result (Unit {0}) Stop → List ℕ → Type 0
Writes version h (Ok done) out = (room_denial version h ≡ None) × (out ≡ packet_octets h)
Writes version h (Err (Denied why)) out = (room_denial version h ≡ Some why) × (out ≡ [])
Writes version h (Err OutOfMemory) out = out ≡ []
