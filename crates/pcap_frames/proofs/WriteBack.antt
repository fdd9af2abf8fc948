-- What is written is read back.
use Rattle.std.proofs.Common.{arith, ◌≡◌, ◌≤◌, ◌<◌, ◌+◌, ◌^◌, ℕ, suc, Bool, true, false, List, [], ◌∷◌, ◌++◌, length, take, All, Ok, Some, None, refl, ap, ◌∙◌}
use Rattle.std.proofs.lemmas.Bool.Decides.{nat_tests}
use Rattle.std.proofs.lemmas.List.{length-append, take_at, drop_at}
use Rattle.byteorder.specs.Endian.{little_bytes}
use Rattle.net_io.specs.declared.file_window.order.OctetOrder.TheVariants.{Little}
use Rattle.pcap_frames.specs.declared.record.FrameHead.{FrameHead}
use Rattle.net_io.specs.file_window.Numbers.{ordered_number}
use Rattle.pcap_frames.specs.Header.{capture_header, magic_of}
use Rattle.pcap_frames.specs.Record.{Frame, head_at, behind_head, record_at, record_size}
use Rattle.pcap_frames.specs.Capture.{Records, go_on, records_at, capture_by, capture_of}
use Rattle.pcap_frames.specs.Written.{IsWritableFrame, capture_head_octets, frame_octets, frames_octets, capture_octets}
use Rattle.net_io.proofs.file_window.Law.{a_written_number_reads_back as written_number}
use Rattle.pcap_frames.proofs.Windows.{header_longer}
use Rattle.pcap_frames.proofs.Chains.{one_and_more, none_at_end}

head_size : (nanos : Bool) → length (capture_head_octets nanos) ≡ 24
unfolding capture_head_octets
head_size nanos = refl

head_back : (nanos : Bool) → capture_header (capture_head_octets nanos) ≡ Ok (record { order = Little; nanos = nanos; link = 101 })
unfolding capture_head_octets capture_header magic_of ordered_number
head_back true = refl
head_back false = refl

frame_size : (head : FrameHead) (octets : List ℕ) → length (frame_octets head octets) ≡ 16 + length octets
unfolding frame_octets
frame_size head octets = omega arith

head_read : (at : ℕ) (head : FrameHead) (octets more : List ℕ) → head.seconds < 2 ^ 32 → head.fraction < 2 ^ 32 → length octets ≤ 262144
    → head_at Little at (frame_octets head octets ++ more) ≡ Ok (Some (record { frame = head; captured = length octets }))
unfolding head_at frame_octets
head_read at head octets more small fine few =
    let count = length octets in
    let last = octets ++ more in
    let seconds = written_number 4 head.seconds (little_bytes 4 head.fraction ++ (little_bytes 4 count ++ (little_bytes 4 count ++ last))) small in
    let fraction = written_number 4 head.fraction (little_bytes 4 count ++ (little_bytes 4 count ++ last)) fine in
    let captured = written_number 4 count (little_bytes 4 count ++ last) (omega arith) in
    let original = written_number 4 count last (omega arith) in
    rw (seconds, fraction, captured, original) (grind (arith, nat_tests))

behind_read : (at : ℕ) (head : FrameHead) (octets more : List ℕ)
    → behind_head at (frame_octets head octets ++ more) (Ok (Some (record { frame = head; captured = length octets }))) ≡ Ok (Some (record { head = head; octets = octets }))
unfolding frame_octets
behind_read at head octets more =
    let all : take (length octets) (octets ++ more) ≡ octets = take_at octets more (length octets) refl in
    let size = length-append octets more in
    rw all (grind (arith, nat_tests))

-- the record that is written of a frame is read as that frame
frame_back : (at : ℕ) (frame : Frame) (more : List ℕ) → IsWritableFrame frame → record_at Little at (frame_octets frame.head frame.octets ++ more) ≡ Ok (Some frame)
frame_back at frame more fits =
    ap (behind_head at (frame_octets frame.head frame.octets ++ more)) (head_read at frame.head frame.octets more fits.seconds fits.fraction fits.octets)
    ∙ behind_read at frame.head frame.octets more

frames_back : (at : ℕ) (frames : List Frame) → All IsWritableFrame frames → records_at Little at (frames_octets frames) ≡ record { frames = frames; fault = None }
frames_back at [] fits = one_and_more Little at [] ∙ ap (go_on (records_at Little) at []) (none_at_end Little at)
frames_back at (frame ∷ frames) fits =
    let first = frame_octets frame.head frame.octets in
    let rest = frames_octets frames in
    let size = record_size frame in
    one_and_more Little at (first ++ rest)
    ∙ ap (go_on (records_at Little) at (first ++ rest)) (frame_back at frame rest (fits 0 frame (omega arith)))
    ∙ ap (λ s. let more = records_at Little (at + size) s in let all : Records = record { frames = frame ∷ more.frames; fault = more.fault } in all) (drop_at first rest size (frame_size frame.head frame.octets))
    ∙ ap (λ (more : Records). let all : Records = record { frames = frame ∷ more.frames; fault = more.fault } in all) (frames_back (at + size) frames (λ k d lt. fits (suc k) d (omega arith)))

pub capture_back : (nanos : Bool) (frames : List Frame) → All IsWritableFrame frames
    → capture_of (capture_octets nanos frames) ≡ Ok (record { header = record { order = Little; nanos = nanos; link = 101 }; frames = frames; fault = None })
capture_back nanos frames fits =
    let head = capture_head_octets nanos in
    let rest = frames_octets frames in
    ap (capture_by (head ++ rest)) (header_longer head rest (omega (arith, head_size nanos)) ∙ head_back nanos)
    ∙ ap (λ s. let records = records_at Little 24 s in Ok (record { header = record { order = Little; nanos = nanos; link = 101 }; frames = records.frames; fault = records.fault })) (drop_at head rest 24 (head_size nanos))
    ∙ ap (λ (records : Records). Ok (record { header = record { order = Little; nanos = nanos; link = 101 }; frames = records.frames; fault = records.fault })) (frames_back 24 frames fits)
