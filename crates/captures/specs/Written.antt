-- What is written of frames of raw IP, in either format.
use Rattle.std.specs.Prelude.{ℕ, ◌<◌, List, [], ◌∷◌, ◌++◌}
use Rattle.pcap_frames.specs.declared.record.FrameHead.{FrameHead}
use Rattle.pcap_frames.specs.Record.{Frame}
use Rattle.pcap_frames.specs.Written.{capture_head_octets, frame_octets}
use Rattle.pcapng_frames.specs.Written.{ng_head_octets, ng_frame_octets}
use Rattle.captures.specs.declared.format.CaptureFormat.{CaptureFormat}
use Rattle.captures.specs.declared.format.CaptureFormat.TheVariants.{Pcap, Pcapng}

-- a file's beginning
abbrev pub file_head : CaptureFormat → List ℕ
file_head (Pcap nanos) = capture_head_octets nanos
file_head Pcapng = ng_head_octets

-- a frame; in pcapng the fraction is nanoseconds
abbrev pub file_frame : CaptureFormat → FrameHead → List ℕ → List ℕ
file_frame (Pcap nanos) head octets = frame_octets head octets
file_frame Pcapng head octets = ng_frame_octets head octets

-- the fraction of a time that can be written: one below a second in pcapng, and any in a libpcap file, where it isn't tested
abbrev pub IsTime : CaptureFormat → FrameHead → Type 0
IsTime (Pcap nanos) head = Unit {0}
IsTime Pcapng head = head.fraction < 1000000000

-- frames one behind another
abbrev pub file_frames : CaptureFormat → List Frame → List ℕ
file_frames format [] = []
file_frames format (frame ∷ frames) = file_frame format frame.head frame.octets ++ file_frames format frames

-- a whole file
abbrev pub file_octets : CaptureFormat → List Frame → List ℕ
file_octets format frames = file_head format ++ file_frames format frames
