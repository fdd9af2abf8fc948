-- What is written is read back.
use Rattle.std.proofs.Common.{arith, ◌≡◌, ◌≤◌, ◌<◌, ◌+◌, ◌-◌, ◌*◌, ◌/◌, ◌%◌, ◌^◌, ℕ, suc, List, [], ◌∷◌, ◌++◌, length, take, drop, All, Ok, Some, None, refl, ap, sym, ◌∙◌, append_assoc}
use Rattle.std.proofs.lemmas.Bool.Decides.{nat_tests}
use Rattle.std.proofs.lemmas.List.{length-append, take_at, drop_at}
use Rattle.byteorder.specs.Endian.{little_bytes}
use Rattle.net_io.specs.declared.file_window.order.OctetOrder.TheVariants.{Little}
use Rattle.pcap_frames.specs.declared.record.FrameHead.{FrameHead}
use Rattle.net_io.specs.file_window.Numbers.{ordered_number}
use Rattle.net_io.proofs.file_window.Law.{a_written_number_reads_back as written_number}
use Rattle.pcapng_frames.specs.declared.head.BlockHead.{BlockHead}
use Rattle.pcapng_frames.specs.declared.packet.NgHead.{NgHead}
use Rattle.pcapng_frames.specs.Numbers.{padded}
use Rattle.pcapng_frames.specs.Section.{Section, no_section}
use Rattle.pcapng_frames.specs.Head.{section_order, block_head_at, whole_at}
use Rattle.pcapng_frames.specs.Options.{option_at, resolution_within, resolution_at}
use Rattle.pcapng_frames.specs.Packet.{packet_at}
use Rattle.pcapng_frames.specs.Block.{NgFrame, some_block, behind_whole, behind_block_head, block_at}
use Rattle.pcapng_frames.specs.Capture.{with_frame, with_block, frames_at, ng_of, IsNg}
use Rattle.pcapng_frames.specs.Written.{IsWritableNg, ng_frames_octets, ng_octets, block_octets, section_body, interface_body, ng_head_octets, nanos_since, packet_front, zero_padding, ng_frame_octets}
use Rattle.pcapng_frames.specs.inside.Parts.{passed_block, frame_block}
use Rattle.pcapng_frames.proofs.Writing.{packet_parts, padding_length, in_parts}
use Rattle.pcapng_frames.proofs.Packets.{packet_given}
use Rattle.pcapng_frames.proofs.Chains.{none_at_end}
use Rattle.pcapng_frames.proofs.Longer.{block_longer}
use Rattle.pcapng_frames.proofs.Goings.{blocks_come_one_behind_another}

-- the section of a written file
abbrev pub begun_section : Section
begun_section = record { order = Little; interfaces = [] }

abbrev pub written_section : Section
written_section = record { order = Little; interfaces = (record { link = 101; resolution = 9 }) ∷ [] }

pub first_back : block_at no_section 0 (block_octets 0x0A0D0D0A section_body) ≡ Ok (Some (passed_block begun_section 28))
unfolding block_head_at section_order whole_at ordered_number
first_back = refl

pub second_back : block_at begun_section 28 (block_octets 1 interface_body) ≡ Ok (Some (passed_block written_section 32))
unfolding block_head_at whole_at option_at resolution_within resolution_at ordered_number
second_back = refl

parts_size : (head : FrameHead) (octets : List ℕ) → length (packet_parts head octets) ≡ 32 + padded (length octets)
unfolding packet_parts
parts_size head octets =
    let n = length octets in
    let pad = padding_length n in
    let whole = length-append octets (zero_padding n ++ little_bytes 4 (32 + padded n)) in
    let behind = length-append (zero_padding n) (little_bytes 4 (32 + padded n)) in
    omega (arith, pad, whole, behind)

head_back : (at : ℕ) (head : FrameHead) (octets : List ℕ) → at < 2 ^ 40 → length octets ≤ 262144
    → block_head_at Little at (packet_parts head octets) ≡ Ok (Some (record { order = Little; kind = 6; total = 32 + padded (length octets) }))
unfolding block_head_at packet_parts
head_back at head octets near few =
    let n = length octets in
    let total = 32 + padded n in
    let behind = packet_front head n ++ (octets ++ (zero_padding n ++ little_bytes 4 total)) in
    let kind = written_number 4 6 (little_bytes 4 total ++ behind) (omega arith) in
    let size = written_number 4 total behind (omega arith) in
    let four : total % 4 ≡ 0 = omega arith in
    rw (kind, size) (grind (arith, nat_tests, four))

packet_back : (at : ℕ) (head : FrameHead) (octets : List ℕ) → head.seconds < 2 ^ 32 → head.fraction < 1000000000 → length octets ≤ 262144
    → packet_at written_section Little (32 + padded (length octets)) at (packet_parts head octets)
    ≡ Ok (record { head = record { seconds = head.seconds; nanos = head.fraction; link = 101 }; captured = length octets })
unfolding packet_at packet_parts
packet_back at head octets small fine few =
    let n = length octets in
    let last = octets ++ (zero_padding n ++ little_bytes 4 (32 + padded n)) in
    let nanos = nanos_since head in
    let interface = written_number 4 0 (little_bytes 4 (nanos / 2 ^ 32) ++ (little_bytes 4 (nanos % 2 ^ 32) ++ (little_bytes 4 n ++ (little_bytes 4 n ++ last)))) (omega arith) in
    let high = written_number 4 (nanos / 2 ^ 32) (little_bytes 4 (nanos % 2 ^ 32) ++ (little_bytes 4 n ++ (little_bytes 4 n ++ last))) (omega arith) in
    let low = written_number 4 (nanos % 2 ^ 32) (little_bytes 4 n ++ (little_bytes 4 n ++ last)) (omega arith) in
    let captured = written_number 4 n (little_bytes 4 n ++ last) (omega arith) in
    let original = written_number 4 n last (omega arith) in
    let units : nanos / 2 ^ 32 * 2 ^ 32 + nanos % 2 ^ 32 ≡ nanos = omega arith in
    let seconds : nanos / 1000000000 ≡ head.seconds = omega arith in
    let rest : nanos % 1000000000 ≡ head.fraction = omega arith in
    rw (interface, high, low, captured, original, units, seconds, rest) (grind (arith, nat_tests))

last_number : (total : ℕ) → total < 2 ^ 32 → ordered_number Little 4 (little_bytes 4 total) ≡ total
last_number total small = written_number 4 total [] small

-- all of a block but its last four octets
ng_front : FrameHead → List ℕ → List ℕ
ng_front head octets = little_bytes 4 6 ++ (little_bytes 4 (32 + padded (length octets)) ++ (packet_front head (length octets) ++ (octets ++ zero_padding (length octets))))

regroup : (a b p o z l : List ℕ) → a ++ (b ++ (p ++ (o ++ (z ++ l)))) ≡ (a ++ (b ++ (p ++ (o ++ z)))) ++ l
regroup a b p o z l = simp append_assoc refl

last_part : (head : FrameHead) (octets : List ℕ) → packet_parts head octets ≡ ng_front head octets ++ little_bytes 4 (32 + padded (length octets))
unfolding packet_parts ng_front
last_part head octets =
    regroup (little_bytes 4 6) (little_bytes 4 (32 + padded (length octets))) (packet_front head (length octets)) octets (zero_padding (length octets)) (little_bytes 4 (32 + padded (length octets)))

whole_back : (at : ℕ) (head : FrameHead) (octets : List ℕ) → length octets ≤ 262144 → whole_at at (packet_parts head octets) (record { order = Little; kind = 6; total = 32 + padded (length octets) })
    ≡ Ok (record { order = Little; kind = 6; total = 32 + padded (length octets) })
unfolding whole_at
whole_back at head octets few =
    let n = length octets in
    let total = 32 + padded n in
    let size = parts_size head octets in
    let front = ng_front head octets in
    let parts : packet_parts head octets ≡ front ++ little_bytes 4 total = last_part head octets in
    let count : length front ≡ total - 4 = omega (arith, ap length parts, length-append front (little_bytes 4 total), size) in
    let behind : drop (total - 4) (packet_parts head octets) ≡ little_bytes 4 total = ap (drop (total - 4)) parts ∙ drop_at front (little_bytes 4 total) (total - 4) count in
    let read : ordered_number Little 4 (little_bytes 4 total) ≡ total = last_number total (omega arith) in
    let last : ordered_number Little 4 (drop (total - 4) (packet_parts head octets)) ≡ total = ap (ordered_number Little 4) behind ∙ read in
    rw last (grind (arith, nat_tests, size))

octets_back : (head : FrameHead) (octets : List ℕ) → take (length octets) (drop 28 (packet_parts head octets)) ≡ octets
unfolding packet_parts
octets_back head octets = take_at octets (zero_padding (length octets) ++ little_bytes 4 (32 + padded (length octets))) (length octets) refl

parts_back : (at : ℕ) (head : FrameHead) (octets : List ℕ) → at < 2 ^ 40 → head.seconds < 2 ^ 32 → head.fraction < 1000000000 → length octets ≤ 262144
    → block_at written_section at (packet_parts head octets)
    ≡ Ok (Some (frame_block written_section (32 + padded (length octets)) (record { seconds = head.seconds; nanos = head.fraction; link = 101 }) octets))
parts_back at head octets near small fine few =
    let rest = packet_parts head octets in
    let block : BlockHead = record { order = Little; kind = 6; total = 32 + padded (length octets) } in
    ap (behind_block_head written_section at rest) (head_back at head octets near few)
    ∙ ap (behind_whole written_section at rest) (whole_back at head octets few)
    ∙ ap some_block (packet_given written_section rest block (record { head = record { seconds = head.seconds; nanos = head.fraction; link = 101 }; captured = length octets }) octets
    (packet_at written_section Little block.total at rest) (packet_back at head octets small fine few) (ap Ok (octets_back head octets)))

-- the block that is written of a frame gives that frame
frame_back : (at : ℕ) (head : FrameHead) (octets : List ℕ) → at < 2 ^ 40 → head.seconds < 2 ^ 32 → head.fraction < 1000000000 → length octets ≤ 262144
    → block_at written_section at (ng_frame_octets head octets)
    ≡ Ok (Some (frame_block written_section (32 + padded (length octets)) (record { seconds = head.seconds; nanos = head.fraction; link = 101 }) octets))
frame_back at head octets near small fine few = ap (block_at written_section at) (in_parts head octets) ∙ parts_back at head octets near small fine few

frame_size : (head : FrameHead) (octets : List ℕ) → length (ng_frame_octets head octets) ≡ 32 + padded (length octets)
frame_size head octets = ap length (in_parts head octets) ∙ parts_size head octets

-- the frames that are written are those that come
frames_back : (at : ℕ) (frames : List NgFrame) → All IsWritableNg frames → at + length (ng_frames_octets frames) ≤ 2 ^ 40
    → frames_at written_section at (ng_frames_octets frames) ≡ record { frames = frames; fault = None }
frames_back at [] fits near = blocks_come_one_behind_another written_section at [] ∙ ap (with_block frames_at at []) (none_at_end written_section at)
frames_back at (frame ∷ frames) fits near =
    let one = fits 0 frame (omega arith) in
    let head : FrameHead = record { seconds = frame.head.seconds; fraction = frame.head.nanos } in
    let first = ng_frame_octets head frame.octets in
    let rest = ng_frames_octets frames in
    let size = frame_size head frame.octets in
    let count = length-append first rest in
    let given : NgHead = record { seconds = frame.head.seconds; nanos = frame.head.nanos; link = 101 } in
    let total = 32 + padded (length frame.octets) in
    let here = block_longer written_section at first rest (frame_block written_section total given frame.octets) (frame_back at head frame.octets (omega arith) one.seconds one.nanos one.octets) in
    let same : frame_block written_section total given frame.octets ≡ frame_block written_section total frame.head frame.octets =
    ap (λ link. frame_block written_section total (record { seconds = frame.head.seconds; nanos = frame.head.nanos; link = link }) frame.octets) (sym one.link) in
    blocks_come_one_behind_another written_section at (first ++ rest)
    ∙ ap (with_block frames_at at (first ++ rest)) (here ∙ ap (λ block. Ok (Some block)) same)
    ∙ ap (λ left. with_frame (Some frame) (frames_at written_section (at + total) left)) (drop_at first rest total size)
    ∙ ap (with_frame (Some frame)) (frames_back (at + total) frames (λ k d lt. fits (suc k) d (omega arith)) (omega arith))

pub file_back : (frames : List NgFrame) → All IsWritableNg frames → length (ng_octets frames) ≤ 2 ^ 40 → IsNg (ng_octets frames) (record { frames = frames; fault = None })
unfolding ng_head_octets
file_back frames fits near =
    let a = block_octets 0x0A0D0D0A section_body in
    let b = block_octets 1 interface_body in
    let rest = ng_frames_octets frames in
    let one = block_longer no_section 0 a (b ++ rest) (passed_block begun_section 28) first_back in
    let two = block_longer begun_section 28 b rest (passed_block written_section 32) second_back in
    let all : ng_of (ng_octets frames) ≡ record { frames = frames; fault = None } =
    blocks_come_one_behind_another no_section 0 (a ++ (b ++ rest))
    ∙ ap (with_block frames_at 0 (a ++ (b ++ rest))) one
    ∙ blocks_come_one_behind_another begun_section 28 (b ++ rest)
    ∙ ap (with_block frames_at 28 (b ++ rest)) two
    ∙ frames_back 60 frames fits (omega arith) in
    (refl, (all, refl))
