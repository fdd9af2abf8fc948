-- The definitions at values worked by hand: one packet of 28 octets at second 1, in the form that is written, and changes of that file.
use Rattle.std.proofs.Common.{◌≡◌, ℕ, List, [], ◌∷◌, ◌++◌, take, Some, None, refl}
use Rattle.net_io.specs.file_window.Numbers.{ordered_number}
use Rattle.pcapng_frames.specs.declared.fault.NgKind.TheVariants.{Short, Trailer, Interface as NoInterface}
use Rattle.pcapng_frames.specs.Head.{section_order, block_head_at, whole_at}
use Rattle.pcapng_frames.specs.Options.{option_at, resolution_within, resolution_at}
use Rattle.pcapng_frames.specs.Packet.{packet_at}
use Rattle.pcapng_frames.specs.Block.{NgFrame}
use Rattle.pcapng_frames.specs.Capture.{blocks_within, frames_at, ng_of}
use Rattle.pcapng_frames.specs.Written.{ng_head_octets, ng_frame_octets}

abbrev packet : List ℕ
packet = 0x45 ∷ 0 ∷ 0 ∷ 0x1c ∷ 0 ∷ 0 ∷ 0x40 ∷ 0 ∷ 0x40 ∷ 0x11 ∷ 0x26 ∷ 0xcf ∷ 10 ∷ 0 ∷ 0 ∷ 1 ∷ 10 ∷ 0 ∷ 0 ∷ 2 ∷ 3 ∷ 0xe8 ∷ 0 ∷ 0x35 ∷ 0 ∷ 8 ∷ 0xe7 ∷ 0xbe ∷ []

abbrev frame : NgFrame
frame = record { head = record { seconds = 1; nanos = 0; link = 101 }; octets = packet }

abbrev header : List ℕ
header = 0x0a ∷ 0x0d ∷ 0x0d ∷ 0x0a ∷ 0x1c ∷ 0 ∷ 0 ∷ 0 ∷ 0x4d ∷ 0x3c ∷ 0x2b ∷ 0x1a ∷ 1 ∷ 0 ∷ 0 ∷ 0
    ∷ 0xff ∷ 0xff ∷ 0xff ∷ 0xff ∷ 0xff ∷ 0xff ∷ 0xff ∷ 0xff ∷ 0x1c ∷ 0 ∷ 0 ∷ 0
    ∷ 1 ∷ 0 ∷ 0 ∷ 0 ∷ 0x20 ∷ 0 ∷ 0 ∷ 0 ∷ 0x65 ∷ 0 ∷ 0 ∷ 0 ∷ 0 ∷ 0 ∷ 4 ∷ 0 ∷ 9 ∷ 0 ∷ 1 ∷ 0 ∷ 9 ∷ 0 ∷ 0 ∷ 0 ∷ 0 ∷ 0 ∷ 0 ∷ 0 ∷ 0x20 ∷ 0 ∷ 0 ∷ 0 ∷ []

abbrev packet_front : ℕ → List ℕ
packet_front interface = 6 ∷ 0 ∷ 0 ∷ 0 ∷ 0x3c ∷ 0 ∷ 0 ∷ 0 ∷ interface ∷ 0 ∷ 0 ∷ 0 ∷ 0 ∷ 0 ∷ 0 ∷ 0 ∷ 0 ∷ 0xca ∷ 0x9a ∷ 0x3b ∷ 0x1c ∷ 0 ∷ 0 ∷ 0 ∷ 0x1c ∷ 0 ∷ 0 ∷ 0 ∷ []

abbrev trailer : List ℕ
trailer = 0x3c ∷ 0 ∷ 0 ∷ 0 ∷ []

abbrev file : List ℕ
file = header ++ (packet_front 0 ++ (packet ++ trailer))

-- the whole file
read : ng_of file ≡ record { frames = frame ∷ []; fault = None }
unfolding frames_at blocks_within block_head_at section_order whole_at option_at resolution_within resolution_at packet_at ordered_number
read = refl

-- cut to 100 octets
cut : ng_of (take 100 file) ≡ record { frames = []; fault = Some (record { octet = 100; kind = Short }) }
unfolding frames_at blocks_within block_head_at section_order whole_at option_at resolution_within resolution_at packet_at ordered_number
cut = refl

-- its last four octets zero
no_trailer : ng_of (header ++ (packet_front 0 ++ (packet ++ (0 ∷ 0 ∷ 0 ∷ 0 ∷ [])))) ≡ record { frames = []; fault = Some (record { octet = 116; kind = Trailer }) }
unfolding frames_at blocks_within block_head_at section_order whole_at option_at resolution_within resolution_at packet_at ordered_number
no_trailer = refl

-- octet 68 is 1: a packet of an interface that isn't described
no_interface : ng_of (header ++ (packet_front 1 ++ (packet ++ trailer))) ≡ record { frames = []; fault = Some (record { octet = 68; kind = NoInterface }) }
unfolding frames_at blocks_within block_head_at section_order whole_at option_at resolution_within resolution_at packet_at ordered_number
no_interface = refl

-- a block of type 0x80000001 between head and frame
passed_over : ng_of (header ++ (1 ∷ 0 ∷ 0 ∷ 0x80 ∷ 12 ∷ 0 ∷ 0 ∷ 0 ∷ 12 ∷ 0 ∷ 0 ∷ 0 ∷ (packet_front 0 ++ (packet ++ trailer)))) ≡ record { frames = frame ∷ []; fault = None }
unfolding frames_at blocks_within block_head_at section_order whole_at option_at resolution_within resolution_at packet_at ordered_number
passed_over = refl

-- what is written is that file
written : ng_head_octets ++ ng_frame_octets (record { seconds = 1; fraction = 0 }) packet ≡ file
unfolding ng_head_octets ng_frame_octets
written = refl
