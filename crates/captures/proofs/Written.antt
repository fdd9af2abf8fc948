-- What is written is read back.
use Rattle.std.proofs.Common.{◌≡◌, ◌≤◌, ◌^◌, ℕ, Bool, true, false, List, [], ◌∷◌, ◌++◌, length, map, if◌then◌else◌, Option, None, Result, Ok, Err, refl, ap, sym, subst, ◌∙◌}
use Rattle.std.specs.Prelude.{All}
use Rattle.std.specs.Option.{option_map}
use Rattle.std.proofs.lemmas.List.Elements.{All-map}
use Rattle.pcap_frames.specs.Record.{Frame}
use Rattle.pcap_frames.specs.Capture.{capture_of}
use Rattle.pcap_frames.specs.Written.{IsWritableFrame, capture_head_octets, frame_octets, frames_octets}
use Rattle.pcap_frames.proofs.Law.{a_written_capture_reads_back}
use Rattle.pcapng_frames.specs.declared.fault.NgFault.{NgFault}
use Rattle.pcapng_frames.specs.Section.{no_section}
use Rattle.pcapng_frames.specs.Block.{NgFrame, NgBlock, block_at}
use Rattle.pcapng_frames.specs.Capture.{NgCapture, with_block, frames_at, is_pcapng, ng_of}
use Rattle.pcapng_frames.specs.Written.{IsWritableNg, ng_head_octets, ng_frame_octets, ng_frames_octets, ng_octets}
use Rattle.pcapng_frames.proofs.Law.{blocks_come_one_behind_another, a_written_pcapng_file_reads_back}
use Rattle.captures.specs.declared.format.CaptureFormat.TheVariants.{Pcap, Pcapng}
use Rattle.captures.specs.declared.fault.FileFault.TheVariants as the_fault
use Rattle.captures.specs.Frame.{CapturedFrame}
use Rattle.captures.specs.CaptureFile.{CaptureFile, frame_of_record, frame_of_packet, by_pcap, by_pcapng, capture_file, IsCaptureFile}
use Rattle.captures.specs.Written.{file_frames, file_octets, IsTime}
use Rattle.captures.proofs.Beginning.{file_of_pcapng}

-- ---- a libpcap file

records_same : (nanos : Bool) (frames : List Frame) → file_frames (Pcap nanos) frames ≡ frames_octets frames
records_same nanos [] = refl
records_same nanos (frame ∷ frames) = ap (λ (octets : List ℕ). frame_octets frame.head frame.octets ++ octets) (records_same nanos frames)

not_pcapng : (nanos : Bool) (octets : List ℕ) → is_pcapng (capture_head_octets nanos ++ octets) ≡ false
unfolding capture_head_octets
not_pcapng true octets = refl
not_pcapng false octets = refl

pub pcap_back : (nanos : Bool) (frames : List Frame) → All IsWritableFrame frames
    → IsCaptureFile (file_octets (Pcap nanos) frames) (record { format = Pcap nanos; frames = map (frame_of_record 101) frames; fault = None })
pcap_back nanos frames writable =
    let octets = file_octets (Pcap nanos) frames in
    let back = a_written_capture_reads_back nanos frames writable in (
      ap (λ (ng : Bool). if ng then by_pcapng (block_at no_section 0 octets) (ng_of octets) else by_pcap (capture_of octets)) (not_pcapng nanos (file_frames (Pcap nanos) frames))
          ∙ ap (λ (records : List ℕ). by_pcap (capture_of (capture_head_octets nanos ++ records))) (records_same nanos frames)
          ∙ ap by_pcap back.0,
      refl,
    )

-- ---- a pcapng file

abbrev as_packet : Frame → NgFrame
as_packet frame = record { head = record { seconds = frame.head.seconds; nanos = frame.head.fraction; link = 101 }; octets = frame.octets }

packets_same : (frames : List Frame) → file_frames Pcapng frames ≡ ng_frames_octets (map as_packet frames)
packets_same [] = refl
packets_same (frame ∷ frames) = ap (λ (octets : List ℕ). ng_frame_octets frame.head frame.octets ++ octets) (packets_same frames)

frames_same : (frames : List Frame) → map frame_of_packet (map as_packet frames) ≡ map (frame_of_record 101) frames
frames_same [] = refl
frames_same (frame ∷ frames) = ap (λ (more : List CapturedFrame). frame_of_record 101 frame ∷ more) (frames_same frames)

writable_packets : (frames : List Frame) → All IsWritableFrame frames → All {X = Frame} (λ frame. IsTime Pcapng frame.head) frames → All IsWritableNg (map as_packet frames)
writable_packets frames writable times =
    All-map IsWritableNg as_packet frames (λ k frame within. let one = writable k frame within in
    record { seconds = one.seconds; nanos = times k frame within; link = refl; octets = one.octets })

-- a file without a fault has a first block without one
by_block : (first : Result (Option NgBlock) NgFault) (file : List ℕ) (capture : NgCapture) → with_block frames_at 0 file first ≡ capture → capture.fault ≡ None
    → by_pcapng first capture ≡ Ok (record { format = Pcapng; frames = map frame_of_packet capture.frames; fault = None })
by_block (Err fault) file capture is none = absurd (let no = ap (λ (c : NgCapture). c.fault) is ∙ none in cc)
by_block (Ok block) file capture is none =
    ap (λ (f : Option NgFault). (let read : CaptureFile = record { format = Pcapng; frames = map frame_of_packet capture.frames; fault = option_map (λ (x : NgFault). the_fault.Pcapng x) f } in Ok read)) none

pub pcapng_back : (frames : List Frame) → All IsWritableFrame frames → All {X = Frame} (λ frame. IsTime Pcapng frame.head) frames → length (file_octets Pcapng frames) ≤ 2 ^ 40
    → IsCaptureFile (file_octets Pcapng frames) (record { format = Pcapng; frames = map (frame_of_record 101) frames; fault = None })
pcapng_back frames writable times few =
    let packets = map as_packet frames in
    let octets = file_octets Pcapng frames in
    let same : octets ≡ ng_octets packets = ap (λ (more : List ℕ). ng_head_octets ++ more) (packets_same frames) in
    let back = a_written_pcapng_file_reads_back packets (writable_packets frames writable times) (subst (λ (o : List ℕ). length o ≤ 2 ^ 40) same few) in
    let is : is_pcapng (ng_octets packets) ≡ true = back.0 in
    let capture : NgCapture = record { frames = packets; fault = None } in (
      ap capture_file same ∙ file_of_pcapng (ng_octets packets) is
          ∙ ap (by_pcapng (block_at no_section 0 (ng_octets packets))) back.1.0
          ∙ by_block (block_at no_section 0 (ng_octets packets)) (ng_octets packets) capture (sym (blocks_come_one_behind_another no_section 0 (ng_octets packets)) ∙ back.1.0) refl
          ∙ ap (λ (fs : List CapturedFrame). (let read : CaptureFile = record { format = Pcapng; frames = fs; fault = None } in Ok read)) (frames_same frames),
      refl,
    )
