-- The laws of src/laws.rt under their names, for the crates above.
use Rattle.std.proofs.Common.{◌≡◌, ℕ, ◌+◌, ◌^◌, ◌<◌, ◌≤◌, false, List, ◌++◌, length, None}
use Rattle.net_io.specs.declared.file_window.order.OctetOrder.TheVariants.{Little}
use Rattle.pcap_frames.specs.Capture.{IsCapture}
use Rattle.pcap_frames.specs.Written.{capture_head_octets, frame_octets}
use Rattle.pcap_frames.proofs.Law.{a_written_capture_reads_back}
use Rattle.packet_label.specs.Packet.{IsPacket}
use Rattle.made_run.specs.made_capture.Packet.{packet_made, packet_said}
use Rattle.made_run.specs.made_capture.Capture.{frame_made, frames_made, capture_made}
use Rattle.made_run.proofs.made_capture.Packets.{forty, reads_back}
use Rattle.made_run.proofs.made_capture.Captures.{none, more, begins, all_writable}

pub made_packets_say_their_label : (x : ℕ) → IsPacket (packet_made x) (packet_said x)
made_packets_say_their_label = reads_back

pub made_packets_have_40_octets : (x : ℕ) → length (packet_made x) ≡ 40
made_packets_have_40_octets = forty

pub record CapturesGrowByAFrame : Type 0 where
  pub none : (seed : ℕ) → capture_made seed 0 ≡ capture_head_octets false
  pub more : (seed count : ℕ) → let frame = frame_made seed (count + 1) in capture_made seed (count + 1) ≡ capture_made seed count ++ frame_octets frame.head frame.octets

pub captures_grow_by_a_frame : CapturesGrowByAFrame
captures_grow_by_a_frame = record { none = none; more = more }

pub shorter_captures_begin_longer_ones : (seed few many : ℕ) → few ≤ many → (rest : List ℕ) × (capture_made seed many ≡ capture_made seed few ++ rest)
shorter_captures_begin_longer_ones = begins

pub made_captures_read_back : (seed count : ℕ) → count < 2 ^ 32
    → IsCapture (capture_made seed count) (record { header = record { order = Little; nanos = false; link = 101 }; frames = frames_made seed count; fault = None })
made_captures_read_back seed count low = a_written_capture_reads_back false (frames_made seed count) (all_writable seed count low)
