-- The capture of a number, frame by frame.
use Rattle.std.proofs.Common.{◌≡◌, ℕ, zero, suc, ◌+◌, ◌-◌, ◌^◌, ◌<◌, ◌≤◌, false, List, [], ◌∷◌, ◌++◌, map, All, refl, sym, ap, ◌∙◌, append_assoc, arith}
use Rattle.std.specs.List.{range_with_len}
use Rattle.std.proofs.lemmas.List.{append-nil}
use Rattle.std.proofs.lemmas.List.Elements.{All-nil, All-cons}
use Rattle.std.proofs.lemmas.List.FromFn.{map-range_with_len_more}
use Rattle.pcap_frames.specs.Written.{IsWritableFrame, capture_head_octets, frame_octets, frames_octets}
use Rattle.pcap_frames.proofs.Law.{frames_are_written_in_their_order}
use Rattle.made_run.specs.made_capture.Number.{number_at}
use Rattle.made_run.specs.made_capture.Capture.{frame_made, frames_made, capture_made}
use Rattle.made_run.proofs.made_capture.Packets.{forty}

pub none : (seed : ℕ) → capture_made seed 0 ≡ capture_head_octets false
none seed = append-nil (capture_head_octets false)

abbrev pub frame_text : ℕ → ℕ → List ℕ
frame_text seed i = frame_octets (frame_made seed i).head (frame_made seed i).octets

pub more : (seed count : ℕ) → capture_made seed (count + 1) ≡ capture_made seed count ++ frame_text seed (count + 1)
more seed count =
    let head = capture_head_octets false in
    let frame = frame_made seed (count + 1) in
    let before = frames_octets (frames_made seed count) in
    ap (λ frames. head ++ frames_octets frames) (map-range_with_len_more (frame_made seed) 1 count (count + 1) (omega arith))
    ∙ ap (λ octets. head ++ octets) (frames_are_written_in_their_order (frames_made seed count) (frame ∷ []))
    ∙ ap (λ octets. head ++ (before ++ octets)) (append-nil (frame_text seed (count + 1)))
    ∙ sym (append_assoc head before (frame_text seed (count + 1)))

begins_by : (seed few by many : ℕ) → many ≡ few + by → (rest : List ℕ) × (capture_made seed many ≡ capture_made seed few ++ rest)
begins_by seed few zero many e =
    let same : many ≡ few = omega arith in
    ([], ap (capture_made seed) same ∙ sym (append-nil (capture_made seed few)))
begins_by seed few (suc by) many e =
    let below = begins_by seed few by (few + by) refl in
    let next : many ≡ few + by + 1 = omega arith in
    let frame = frame_text seed (few + by + 1) in (
      below.0 ++ frame,
      ap (capture_made seed) next ∙ more seed (few + by) ∙ ap (λ octets. octets ++ frame) below.1 ∙ append_assoc (capture_made seed few) below.0 frame,
    )

pub begins : (seed few many : ℕ) → few ≤ many → (rest : List ℕ) × (capture_made seed many ≡ capture_made seed few ++ rest)
begins seed few many le = begins_by seed few (many - few) many (omega arith)

is_writable : (seed i : ℕ) → i < 2 ^ 32 → IsWritableFrame (frame_made seed i)
is_writable seed i low = record { seconds = low; fraction = omega arith; octets = omega (arith, forty (number_at seed i)) }

all_from : (seed a n : ℕ) → a + n ≤ 2 ^ 32 → All IsWritableFrame (map (frame_made seed) (range_with_len a n))
all_from seed a zero le = All-nil IsWritableFrame
all_from seed a (suc n) le =
    All-cons IsWritableFrame (frame_made seed a) (map (frame_made seed) (range_with_len (a + 1) n)) (is_writable seed a (omega arith)) (all_from seed (a + 1) n (omega arith))

pub all_writable : (seed count : ℕ) → count < 2 ^ 32 → All IsWritableFrame (frames_made seed count)
all_writable seed count low = all_from seed 1 count (omega arith)
