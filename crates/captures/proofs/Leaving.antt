-- What a reader gives, and what it leaves, by the answers of its format's reader.
use Rattle.std.proofs.Common.{◌≡◌, ℕ, ◌+◌, List, [], ◌∷◌, length, map, drop, Option, Some, None, Result, Ok, Err, sym, ap, ◌∙◌}
use Rattle.std.specs.Option.{option_map}
use Rattle.std.proofs.lemmas.List.{drop-drop}
use Rattle.pcap_frames.specs.declared.header.CaptureHeader.{CaptureHeader}
use Rattle.pcap_frames.specs.declared.record.FrameHead.{FrameHead}
use Rattle.pcap_frames.specs.declared.fault.CaptureFault.{CaptureFault}
use Rattle.pcap_frames.specs.declared.fault.FrameStop.{FrameStop}
use Rattle.pcap_frames.specs.declared.fault.FrameStop.TheVariants as pcap_stops
use Rattle.pcap_frames.specs.Record.{Frame, record_at}
use Rattle.pcap_frames.specs.Capture.{Records, go_on, records_at}
use Rattle.pcap_frames.specs.Reader.{Reader, IsAnswerOf}
use Rattle.pcap_frames.proofs.Law.{records_come_one_behind_another}
use Rattle.pcapng_frames.specs.declared.packet.NgHead.{NgHead}
use Rattle.pcapng_frames.specs.declared.fault.NgFault.{NgFault}
use Rattle.pcapng_frames.specs.declared.fault.NgStop.{NgStop}
use Rattle.pcapng_frames.specs.declared.fault.NgStop.TheVariants as ng_stops
use Rattle.pcapng_frames.specs.Capture.{NgCapture, frames_at}
use Rattle.pcapng_frames.specs.Reader.{NgReader, NgFound, IsNgAnswer, next_at, found_here, found_first}
use Rattle.pcapng_frames.proofs.Law.{answers_come_one_behind_another}
use Rattle.captures.specs.declared.fault.FileFault.TheVariants as fault
use Rattle.captures.specs.declared.reader.AnyFrames.TheVariants.{Pcap, Pcapng}
use Rattle.captures.specs.declared.frames.LinkedHead.{LinkedHead}
use Rattle.captures.specs.CaptureFile.{frame_of_record, frame_of_packet}
use Rattle.captures.specs.Reader.{FramesLeft, left_of}
use Rattle.captures.specs.inside.Stops.{pcap_stop, ng_stop}
use Rattle.captures.specs.inside.Given.{frame_given, IsGiven}

abbrev of_records : ℕ → Records → FramesLeft
of_records link records = record { frames = map (frame_of_record link) records.frames; fault = option_map fault.Pcap records.fault }

abbrev of_packets : NgCapture → FramesLeft
of_packets left = record { frames = map frame_of_packet left.frames; fault = option_map fault.Pcapng left.fault }

abbrev with_frame : LinkedHead → List ℕ → FramesLeft → FramesLeft
with_frame given octets left' = record { frames = frame_given given octets ∷ left'.frames; fault = left'.fault }

-- ---- a libpcap file

module _ (reader : Reader) (file : List ℕ) where
  records_are : (said : Result (Option Frame) CaptureFault) → record_at reader.header.order reader.place (drop reader.place file) ≡ said
      → left_of (Pcap reader) file ≡ of_records reader.header.link (go_on (records_at reader.header.order) reader.place (drop reader.place file) said)
  records_are said here =
      ap (of_records reader.header.link)
      (records_come_one_behind_another reader.header.order reader.place (drop reader.place file)
      ∙ ap (go_on (records_at reader.header.order) reader.place (drop reader.place file)) here)

  pub record_stop : (octets : List ℕ) (left' : FramesLeft) (stop : FrameStop)
      → IsAnswerOf (option_map (λ head. let frame : Frame = record { head = head; octets = octets } in frame)) (Err stop) (record_at reader.header.order reader.place (drop reader.place file))
      → IsGiven (Err (pcap_stop stop)) octets (left_of (Pcap reader) file) left'
  record_stop octets left' (pcap_stops.Capture fault) here = records_are (Err fault) here
  record_stop octets left' pcap_stops.ReadFault here = tt
  record_stop octets left' pcap_stops.OutOfMemory here = tt

  pub no_record : (reader' : Reader) (octets : List ℕ) → reader'.header ≡ reader.header → reader'.place ≡ reader.place → record_at reader.header.order reader.place (drop reader.place file) ≡ Ok None
      → IsGiven (Ok None) octets (left_of (Pcap reader) file) (left_of (Pcap reader') file)
  no_record reader' octets header place here = (
    records_are (Ok None) here,
    ap (λ (h : CaptureHeader). of_records h.link (records_at h.order reader'.place (drop reader'.place file))) header
        ∙ ap (λ (p : ℕ). of_records reader.header.link (records_at reader.header.order p (drop p file))) place,
  )

  pub one_record : (reader' : Reader) (link : ℕ) (octets : List ℕ) (head : FrameHead) → link ≡ reader.header.link → reader'.header ≡ reader.header → reader'.place ≡ reader.place + (16 + length octets)
      → record_at reader.header.order reader.place (drop reader.place file) ≡ Ok (Some (record { head = head; octets = octets }))
      → left_of (Pcap reader) file ≡ with_frame (record { head = head; link = link }) octets (left_of (Pcap reader') file)
  one_record reader' link octets head linked header place here =
      let next = reader.place + (16 + length octets) in
      let frame : Frame = record { head = head; octets = octets } in
      let given : LinkedHead = record { head = head; link = reader.header.link } in
      records_are (Ok (Some frame)) here
      ∙ ap (λ rest. with_frame given octets (of_records reader.header.link (records_at reader.header.order next rest))) (drop-drop (16 + length octets) reader.place file)
      ∙ ap (λ (p : ℕ). with_frame given octets (of_records reader.header.link (records_at reader.header.order p (drop p file)))) (sym place)
      ∙ ap (λ (h : CaptureHeader). with_frame given octets (of_records h.link (records_at h.order reader'.place (drop reader'.place file)))) (sym header)
      ∙ ap (λ (l : ℕ). with_frame (record { head = head; link = l }) octets (left_of (Pcap reader') file)) (sym linked)

-- ---- a pcapng file

module _ (reader : NgReader) (file : List ℕ) where
  packets_are : (said : Result (Option NgFound) NgFault) → next_at reader.section reader.place (drop reader.place file) ≡ said
      → left_of (Pcapng reader) file ≡ of_packets (found_first file said)
  packets_are said here = ap of_packets (answers_come_one_behind_another reader.section file reader.place ∙ ap (found_first file) here)

  pub packet_stop : (reader' : NgReader) (octets : List ℕ) (left' : FramesLeft) (stop : NgStop)
      → IsNgAnswer (option_map (found_here reader'.section reader'.place octets)) (Err stop) (next_at reader.section reader.place (drop reader.place file))
      → IsGiven (Err (ng_stop stop)) octets (left_of (Pcapng reader) file) left'
  packet_stop reader' octets left' (ng_stops.Capture fault) here = packets_are (Err fault) here
  packet_stop reader' octets left' ng_stops.ReadFault here = tt
  packet_stop reader' octets left' ng_stops.OutOfMemory here = tt

  pub no_packet : (reader' : NgReader) (octets : List ℕ) → next_at reader.section reader.place (drop reader.place file) ≡ Ok None
      → frames_at reader'.section reader'.place (drop reader'.place file) ≡ record { frames = []; fault = None } → IsGiven (Ok None) octets (left_of (Pcapng reader) file) (left_of (Pcapng reader') file)
  no_packet reader' octets here end = let none = packets_are (Ok None) here in (none, ap of_packets end ∙ sym none)

  pub one_packet : (reader' : NgReader) (given : LinkedHead) (octets : List ℕ) (head : NgHead)
      → given ≡ record { head = record { seconds = head.seconds; fraction = head.nanos }; link = head.link }
      → next_at reader.section reader.place (drop reader.place file) ≡ Ok (Some (found_here reader'.section reader'.place octets head))
      → left_of (Pcapng reader) file ≡ with_frame given octets (left_of (Pcapng reader') file)
  one_packet reader' given octets head same here =
      let found = found_here reader'.section reader'.place octets head in
      packets_are (Ok (Some found)) here
      ∙ ap (λ (g : LinkedHead). with_frame g octets (left_of (Pcapng reader') file)) (sym same)
