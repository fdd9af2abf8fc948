-- What the writing of a packet that crosses answers.
use Rattle.std.specs.Prelude.{◌≡◌, ℕ, ◌<◌, ◌≤◌, List, [], Result, Ok, Err}
use Rattle.ip_headers.specs.Packet.{Headers}
use Rattle.ip_headers.specs.Written.{packet_octets, rebuilt_length}
use Rattle.packet_label.specs.declared.denial.Denial.TheVariants.{TooLong}
use Rattle.packet_label.specs.declared.denial.Stop.{Stop}
use Rattle.packet_label.specs.declared.denial.Stop.TheVariants.{Denied, OutOfMemory}

-- the packet of these headers is written, or its length field can't count it
abbrev pub Crosses : Headers → Result (Unit {0}) Stop → List ℕ → Type 0
Crosses p (Ok done) out = (rebuilt_length p ≤ 65535) × (out ≡ packet_octets p)
Crosses p (Err (Denied why)) out = (65535 < rebuilt_length p) × (why ≡ TooLong) × (out ≡ [])
Crosses p (Err OutOfMemory) out = out ≡ []
