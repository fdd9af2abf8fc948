-- The capture that is made from a number.
use Rattle.std.specs.Prelude.{ℕ, false, List, map}
use Rattle.std.specs.List.{range_with_len}
use Rattle.pcap_frames.specs.Record.{Frame}
use Rattle.pcap_frames.specs.Written.{capture_octets}
use Rattle.made_run.specs.made_capture.Number.{number_at}
use Rattle.made_run.specs.made_capture.Packet.{packet_made}

-- packet i, counted from 1, at second i
abbrev pub frame_made : ℕ → ℕ → Frame
frame_made seed i = record { head = record { seconds = i; fraction = 0 }; octets = packet_made (number_at seed i) }

-- the first frames
abbrev pub frames_made : ℕ → ℕ → List Frame
frames_made seed count = map (frame_made seed) (range_with_len 1 count)

-- the capture of so many packets, whose fractions are microseconds
abbrev pub capture_made : ℕ → ℕ → List ℕ
capture_made seed count = capture_octets false (frames_made seed count)
