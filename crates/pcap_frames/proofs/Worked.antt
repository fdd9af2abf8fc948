-- The definitions at values worked by hand: one packet of 28 octets, written at second 1, and changes of that file.
use Rattle.std.proofs.Common.{◌≡◌, ℕ, true, false, List, [], ◌∷◌, ◌++◌, take, Ok, Some, None, refl}
use Rattle.net_io.specs.declared.file_window.order.OctetOrder.TheVariants.{Little, Big}
use Rattle.pcap_frames.specs.declared.fault.CaptureKind.TheVariants.{SnapCut, Short}
use Rattle.net_io.specs.file_window.Numbers.{ordered_number}
use Rattle.pcap_frames.specs.Header.{magic_of, capture_header}
use Rattle.pcap_frames.specs.Record.{Frame, head_at}
use Rattle.pcap_frames.specs.Capture.{records_within, records_at, capture_of, fault_of}
use Rattle.pcap_frames.specs.Ip.{ip_part_of}
use Rattle.pcap_frames.specs.Written.{capture_head_octets, frame_octets, capture_octets}

abbrev packet : List ℕ
packet = 0x45 ∷ 0 ∷ 0 ∷ 0x1c ∷ 0 ∷ 0 ∷ 0x40 ∷ 0 ∷ 0x40 ∷ 0x11 ∷ 0x26 ∷ 0xcf ∷ 10 ∷ 0 ∷ 0 ∷ 1 ∷ 10 ∷ 0 ∷ 0 ∷ 2 ∷ 3 ∷ 0xe8 ∷ 0 ∷ 0x35 ∷ 0 ∷ 8 ∷ 0xe7 ∷ 0xbe ∷ []

abbrev frame : Frame
frame = record { head = record { seconds = 1; fraction = 0 }; octets = packet }

abbrev header : List ℕ
header = 0xd4 ∷ 0xc3 ∷ 0xb2 ∷ 0xa1 ∷ 2 ∷ 0 ∷ 4 ∷ 0 ∷ 0 ∷ 0 ∷ 0 ∷ 0 ∷ 0 ∷ 0 ∷ 0 ∷ 0 ∷ 0 ∷ 0 ∷ 4 ∷ 0 ∷ 0x65 ∷ 0 ∷ 0 ∷ 0 ∷ []

abbrev file : List ℕ
file = header ++ (1 ∷ 0 ∷ 0 ∷ 0 ∷ 0 ∷ 0 ∷ 0 ∷ 0 ∷ 0x1c ∷ 0 ∷ 0 ∷ 0 ∷ 0x1c ∷ 0 ∷ 0 ∷ 0 ∷ packet)

-- the most significant octet first, nanoseconds, Ethernet
abbrev other : List ℕ
other = 0xa1 ∷ 0xb2 ∷ 0x3c ∷ 0x4d ∷ 0 ∷ 2 ∷ 0 ∷ 4 ∷ 9 ∷ 9 ∷ 9 ∷ 9 ∷ 9 ∷ 9 ∷ 9 ∷ 9 ∷ 9 ∷ 9 ∷ 9 ∷ 9 ∷ 0 ∷ 0 ∷ 0 ∷ 1 ∷ []

written : capture_octets false (frame ∷ []) ≡ file
unfolding capture_head_octets frame_octets
written = refl

read : capture_of file ≡ Ok (record { header = record { order = Little; nanos = false; link = 101 }; frames = frame ∷ []; fault = None })
unfolding capture_header magic_of ordered_number head_at records_at records_within
read = refl

cut : fault_of (take 67 file) ≡ Some (record { octet = 67; kind = Short })
unfolding capture_header magic_of ordered_number head_at records_at records_within
cut = refl

snap_cut : fault_of (other ++ (0 ∷ 0 ∷ 0 ∷ 0 ∷ 0 ∷ 0 ∷ 0 ∷ 0 ∷ 0 ∷ 0 ∷ 0 ∷ 0 ∷ 0 ∷ 0 ∷ 0 ∷ 0 ∷ 0 ∷ 0 ∷ 0 ∷ 0 ∷ 0 ∷ 0 ∷ 0 ∷ 0 ∷ 0 ∷ 0 ∷ 0 ∷ 1 ∷ 0 ∷ 0 ∷ 0 ∷ 2 ∷ [])) ≡ Some (record { octet = 48; kind = SnapCut })
unfolding capture_header magic_of ordered_number head_at records_at records_within
snap_cut = refl

empty : capture_of other ≡ Ok (record { header = record { order = Big; nanos = true; link = 1 }; frames = []; fault = None })
unfolding capture_header magic_of ordered_number head_at records_at records_within
empty = refl

behind_a_tag : ip_part_of 1 (take 12 packet ++ (0x81 ∷ 0 ∷ 0 ∷ 9 ∷ 0x86 ∷ 0xdd ∷ 7 ∷ [])) ≡ Some (7 ∷ [])
unfolding ip_part_of ordered_number
behind_a_tag = refl
