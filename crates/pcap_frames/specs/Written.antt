-- The capture that is written: lowest octet first, version 2.4, snap length 262,144, link type 101 (raw IP).
use Rattle.std.specs.Prelude.{ℕ, ◌<◌, ◌≤◌, ◌^◌, Bool, if◌then◌else◌, List, [], ◌∷◌, ◌++◌, length}
use Rattle.byteorder.specs.Endian.{little_bytes}
use Rattle.pcap_frames.specs.declared.record.FrameHead.{FrameHead}
use Rattle.pcap_frames.specs.Record.{Frame}

-- the header of a capture
unfoldable pub capture_head_octets : Bool → List ℕ
capture_head_octets nanos =
    little_bytes 4 (if nanos then 0xA1B23C4D else 0xA1B2C3D4) ++ (little_bytes 2 2 ++ (little_bytes 2 4
    ++ (little_bytes 4 0 ++ (little_bytes 4 0 ++ (little_bytes 4 262144 ++ little_bytes 4 101)))))

-- a record whose captured and original lengths are those of its octets
unfoldable pub frame_octets : FrameHead → List ℕ → List ℕ
frame_octets head octets =
    little_bytes 4 head.seconds ++ (little_bytes 4 head.fraction
    ++ (little_bytes 4 (length octets) ++ (little_bytes 4 (length octets) ++ octets)))

-- a frame that can be written: its numbers fit into four octets, and it has at most 262,144 octets
pub record IsWritableFrame (frame : Frame) : Type 0 where
  pub seconds : frame.head.seconds < 2 ^ 32
  pub fraction : frame.head.fraction < 2 ^ 32
  pub octets : length frame.octets ≤ 262144

-- records one after another
abbrev pub frames_octets : List Frame → List ℕ
frames_octets [] = []
frames_octets (frame ∷ frames) = frame_octets frame.head frame.octets ++ frames_octets frames

-- a whole capture
abbrev pub capture_octets : Bool → List Frame → List ℕ
capture_octets nanos frames = capture_head_octets nanos ++ frames_octets frames
