-- What a frame of a capture gives, whatever the capture's format, and the packet in it.
use Rattle.std.specs.Prelude.{ℕ, List, true, false}
use Rattle.std.specs.Option.{option_map_or}
use Rattle.pcap_frames.specs.declared.record.FrameHead.{FrameHead}
use Rattle.pcap_frames.specs.Ip.{ip_part_of}
use Rattle.captures.specs.declared.packet_in.PacketIn.{PacketIn}

-- When a frame was captured, its link type, and its octets.
pub record CapturedFrame : Type 0 where
  pub head : FrameHead
  pub link : ℕ
  pub octets : List ℕ

-- the packet of IP that a frame has, or the frame, which isn't one
abbrev pub packet_in : CapturedFrame → PacketIn
packet_in frame =
    option_map_or (λ packet. record { bytes = packet; is_ip = true }) (ip_part_of frame.link frame.octets) (record { bytes = frame.octets; is_ip = false })
