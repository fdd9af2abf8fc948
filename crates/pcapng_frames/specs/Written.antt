-- The pcapng file that is written: lowest octet first, version 1.0, one interface of raw IP (link type 101), snap length 262,144, nanoseconds.
use Rattle.std.specs.Prelude.{◌≡◌, ◌<◌, ◌≤◌, ℕ, ◌+◌, ◌-◌, ◌*◌, ◌/◌, ◌%◌, ◌^◌, List, [], ◌∷◌, ◌++◌, length, replicate}
use Rattle.byteorder.specs.Endian.{little_bytes}
use Rattle.pcap_frames.specs.declared.record.FrameHead.{FrameHead}
use Rattle.pcapng_frames.specs.Numbers.{padded}
use Rattle.pcapng_frames.specs.Block.{NgFrame}

-- a block: its type, its total length, its body, and the total length again
abbrev pub block_octets : ℕ → List ℕ → List ℕ
block_octets kind body =
    let total = length body + 12 in
    little_bytes 4 kind ++ (little_bytes 4 total ++ (body ++ little_bytes 4 total))

-- the magic, the version, and a section length that isn't told
abbrev pub section_body : List ℕ
section_body = little_bytes 4 0x1A2B3C4D ++ (little_bytes 2 1 ++ (little_bytes 2 0 ++ little_bytes 8 0xFFFFFFFFFFFFFFFF))

-- the link type, two octets that mean nothing, the snap length, the resolution (code 9, one octet, padded), and the end of the options
abbrev pub interface_body : List ℕ
interface_body =
    little_bytes 2 101 ++ (little_bytes 2 0 ++ (little_bytes 4 262144
    ++ (little_bytes 2 9 ++ (little_bytes 2 1 ++ (little_bytes 4 9 ++ (little_bytes 2 0 ++ little_bytes 2 0))))))

unfoldable pub ng_head_octets : List ℕ
ng_head_octets = block_octets 0x0A0D0D0A section_body ++ block_octets 1 interface_body

-- a frame's time as a count of nanoseconds
abbrev pub nanos_since : FrameHead → ℕ
nanos_since head = head.seconds * 1000000000 + head.fraction

-- interface 0, the time, the captured and the original length, and the octets, padded with zeros
abbrev pub packet_front : FrameHead → ℕ → List ℕ
packet_front head count =
    little_bytes 4 0 ++ (little_bytes 4 (nanos_since head / 2 ^ 32) ++ (little_bytes 4 (nanos_since head % 2 ^ 32)
    ++ (little_bytes 4 count ++ little_bytes 4 count)))

abbrev pub zero_padding : ℕ → List ℕ
zero_padding count = let zeros : List ℕ = replicate (padded count - count) 0 in zeros

-- the block of a packet
unfoldable pub ng_frame_octets : FrameHead → List ℕ → List ℕ
ng_frame_octets head octets = block_octets 6 (packet_front head (length octets) ++ (octets ++ zero_padding (length octets)))

-- a frame that can be written: raw IP, a time in seconds and nanoseconds, and at most 262,144 octets
pub record IsWritableNg (frame : NgFrame) : Type 0 where
  pub seconds : frame.head.seconds < 2 ^ 32
  pub nanos : frame.head.nanos < 1000000000
  pub link : frame.head.link ≡ 101
  pub octets : length frame.octets ≤ 262144

abbrev pub ng_frames_octets : List NgFrame → List ℕ
ng_frames_octets [] = []
ng_frames_octets (frame ∷ frames) = ng_frame_octets (record { seconds = frame.head.seconds; fraction = frame.head.nanos }) frame.octets ++ ng_frames_octets frames

-- a whole pcapng file
abbrev pub ng_octets : List NgFrame → List ℕ
ng_octets frames = ng_head_octets ++ ng_frames_octets frames
