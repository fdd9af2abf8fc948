-- How a call goes on from packet to packet, and how it ends at each place.
use Rattle.std.proofs.Common.{◌≡◌, ◌≢◌, ℕ, ◌+◌, ◌<◌, Bool, List, [], ◌∷◌, ◌++◌, length, map, drop, take, Option, Some, Result, Ok, Err, refl, sym, ap, subst, ◌∙◌, append_assoc, length-append, arith, inl}
use Rattle.std.specs.Prelude.{IsTrue, OnOk, Contains}
use Rattle.std.specs.List.{concat}
use Rattle.std.specs.Option.{option_map}
use Rattle.std.specs.Result.{IsErrOf}
use Rattle.std.proofs.lemmas.List.{append-nil, take_at, drop-drop}
use Rattle.net_io.specs.Depot.{DepotState, octets_of, SameHeld, OnlyReads}
use Rattle.net_io.specs.Faults.{Rose}
use Rattle.net_io.specs.Sink.{SinkState, WritesPrefix}
use Rattle.net_io.specs.declared.fault.IoFault.{IoFault}
use Rattle.net_io.specs.declared.fault.IoFault.TheVariants.{Failed}
use Rattle.pcap_frames.specs.declared.fault.CaptureFault.{CaptureFault}
use Rattle.pcap_frames.specs.declared.fault.FrameStop.{FrameStop}
use Rattle.pcap_frames.specs.declared.fault.FrameStop.TheVariants as stop
use Rattle.pcap_frames.specs.declared.header.CaptureHeader.{CaptureHeader}
use Rattle.pcap_frames.specs.declared.record.FrameHead.{FrameHead}
use Rattle.pcap_frames.specs.Capture.{Records, go_on, records_at, capture_of}
use Rattle.pcap_frames.specs.Reader.{Reader}
use Rattle.pcap_frames.specs.Record.{Frame, record_at}
use Rattle.pcap_frames.specs.Written.{frame_octets}
use Rattle.pcap_frames.proofs.Law.{records_come_one_behind_another}
use Rattle.packet_label.specs.declared.denial.Denial.{Denial}
use Rattle.doi_table.specs.declared.plan.DoiPlan.{DoiPlan}
use Rattle.captures.specs.declared.fault.FileFault.TheVariants as fault
use Rattle.captures.specs.declared.format.CaptureFormat.TheVariants as format
use Rattle.captures.specs.declared.reader.AnyFrames.TheVariants as reads
use Rattle.captures.specs.Frame.{CapturedFrame}
use Rattle.captures.specs.CaptureFile.{CaptureFile, frame_of_record, by_pcap}
use Rattle.captures.specs.Reader.{FramesLeft, left_of}
use Rattle.captures.specs.Written.{file_octets, file_frames}
use Rattle.captures.specs.Output.{HasAppended}
use Rattle.call_report.specs.declared.status.Status.{Status}
use Rattle.call_report.specs.declared.status.Status.TheVariants.{ReadFault}
use Rattle.call_report.specs.CallEnds.{CallEnds}
use Rattle.call_report.specs.Event.{packets_limit}
use Rattle.call_report.specs.Outside.{Outside}
use Rattle.call_report.specs.Printing.{HandsOn, IsUnderWay, Printed}
use Rattle.call_report.specs.Report.{Report}
use Rattle.call_report.specs.Status.{status_number, write_status}
use Rattle.call_report.proofs.Law.{HasLeft, Keeps, Begins, a_report_goes_on, a_report_breaks, faults_rose_over_a_report, a_report_is_printed}
use Rattle.ripso_border_run.specs.declared.lines.Counts.{Counts}
use Rattle.ripso_border_run.specs.declared.task.Task.{Task}
use Rattle.ripso_border_run.specs.Frames.{IsMadeOf, AreMadeOf, written_frames, made_lines, count_passed, count_denied}
use Rattle.ripso_border_run.specs.Lines.{Made, made_packet_line}
use Rattle.ripso_border_run.specs.Outcome.{Outcome, IsOutcome}
use Rattle.ripso_border_run.specs.Says.{border_says, capture_stages}
use Rattle.ripso_border_run.specs.inside.Course.{made_of, shown_of, kept_of, after_counting, with_left, IsAmid, IsCrossing}
use Rattle.ripso_border_run.proofs.Made.{are_joined, are_counted, written_joined, text_joined, passed_joined, denied_joined}
use Rattle.ripso_border_run.proofs.Leading.{Leads, leads_less, leads_amid, outcome_once, octets_joined}
use Rattle.ripso_border_run.proofs.Stopping as stopping
use Rattle.ripso_border_run.proofs.Stopping.{asked}

-- some first octets that were sent of a text
prefix_of : (sent rest text old new : List ℕ) → sent ++ rest ≡ text → new ≡ old ++ sent → WritesPrefix text old new
prefix_of sent rest text old new all is = record {
  count = length sent;
  within = omega (arith, ap length all, length-append sent rest);
  written = is ∙ ap (λ t. old ++ t) (sym (ap (take (length sent)) (sym all) ∙ take_at sent rest (length sent) refl));
}

-- the line of what was made
pub line_is : (number : ℕ) (verdict : Result (Unit {0}) Denial) (packet : List ℕ) → shown_of number verdict ≡ made_packet_line number (made_of verdict packet)
line_is number (Ok x) packet = refl
line_is number (Err why) packet = refl

-- ---- what a reader gives

with_frame : CapturedFrame → FramesLeft → FramesLeft
with_frame frame left = record { frames = frame ∷ left.frames; fault = left.fault }

abbrev of_records : ℕ → Records → FramesLeft
of_records link records = record { frames = map (frame_of_record link) records.frames; fault = option_map fault.Pcap records.fault }

module _ (reader : Reader) (file : List ℕ) where
  pub records_are : (said : Result (Option Frame) CaptureFault) → record_at reader.header.order reader.place (drop reader.place file) ≡ said
      → left_of (reads.Pcap reader) file ≡ of_records reader.header.link (go_on (records_at reader.header.order) reader.place (drop reader.place file) said)
  records_are said here =
      ap (of_records reader.header.link)
      (records_come_one_behind_another reader.header.order reader.place (drop reader.place file)
      ∙ ap (go_on (records_at reader.header.order) reader.place (drop reader.place file)) here)

  one_record : (next : Reader) (octets : List ℕ) (head : FrameHead) → next.header ≡ reader.header → next.place ≡ reader.place + (16 + length octets)
      → record_at reader.header.order reader.place (drop reader.place file) ≡ Ok (Some (record { head = head; octets = octets }))
      → left_of (reads.Pcap reader) file ≡ with_frame (record { head = head; link = reader.header.link; octets = octets }) (left_of (reads.Pcap next) file)
  unfolding with_frame
  one_record next octets head header place here =
      let to = reader.place + (16 + length octets) in
      let frame : CapturedFrame = record { head = head; link = reader.header.link; octets = octets } in
      records_are (Ok (Some (record { head = head; octets = octets }))) here
      ∙ ap (λ rest. with_frame frame (of_records reader.header.link (records_at reader.header.order to rest))) (drop-drop (16 + length octets) reader.place file)
      ∙ ap (λ (p : ℕ). with_frame frame (of_records reader.header.link (records_at reader.header.order p (drop p file)))) (sym place)
      ∙ ap (λ (h : CaptureHeader). with_frame frame (of_records h.link (records_at h.order next.place (drop next.place file)))) (sym header)

-- ---- a call on its way

module _ (task : Task) (plan : DoiPlan) (before now : Outside) (reader : Reader) (hand : List CapturedFrame) (waits waiting : List ℕ) (counts : Counts)
    (crossing : IsCrossing task plan before now reader hand waits waiting counts) where
  abbrev text : List ℕ
  text = concat (made_lines 1 crossing.made)

  abbrev octets_made : List ℕ
  octets_made = file_octets (format.Pcap reader.header.nanos) (written_frames crossing.done crossing.made)

  pub leads : (told : IsTrue before.folder.tells) → Leads task before.folder.held text octets_made
  leads told =
      let amid = crossing.amid told in
      leads_amid task plan before crossing.planned told amid.octets amid.input reader crossing.done hand (left_of (reads.Pcap reader) amid.octets) amid.all crossing.made crossing.are
      (omega (arith, crossing.packets, crossing.few))

  once : IsTrue before.folder.tells → (a b : Outcome) → IsOutcome task before.folder.held a → IsOutcome task before.folder.held b → a ≡ b
  once told a b x y = outcome_once task plan before crossing.planned told a b x y

  pub begun : (told : IsTrue before.folder.tells) → Begins (border_says (asked task)) before.folder.held text
  begun told = stopping.begins task before before text octets_made (leads told)

  pub may_pause : IsTrue before.folder.tells → (report : Report) → (border_says (asked task)).report before.folder.held [] report → Contains report.pauses text
  may_pause told = stopping.pauses task before before text octets_made (leads told) (once told)

  pub prefix_sent : (after : SinkState) → after ≡ now.stream → IsTrue before.stream.tells → WritesPrefix text before.stream.written after.written
  prefix_sent after same out =
      prefix_of crossing.way.goes.sent waiting text before.stream.written after.written crossing.way.goes.all (ap (λ (s : SinkState). s.written) same ∙ crossing.way.goes.written out)

  -- the folder as it is, or after a read
  pub left_now : (after : Outside) → (IsTrue now.folder.tells → SameHeld now.folder.held after.folder.held) → (told : IsTrue before.folder.tells) → HasLeft (border_says (asked task)) before after (capture_stages task)
  left_now after kept told =
      let amid = crossing.amid told in
      let still = kept (subst IsTrue (sym crossing.told) told) in
      stopping.has_left task before after text octets_made (leads told) amid.sent waits (still task.output ∙ amid.here) amid.whole (λ name other. still name ∙ crossing.others told name other)

  pub keeps : (after : Outside) → after.folder.tells ≡ before.folder.tells → after.stream.tells ≡ before.stream.tells → Keeps (border_says (asked task)) before after (capture_stages task)
  keeps after folder stream = stopping.keeps_capture task before after crossing.planned.begun folder stream

  abbrev tells_still : (after : Outside) → after.stream ≡ now.stream → after.stream.tells ≡ before.stream.tells
  tells_still after same = ap (λ (s : SinkState). s.tells) same ∙ crossing.way.told

  -- ---- nothing more

  -- no memory for more
  pub ends_without_memory : (after : Outside) → after.folder ≡ now.folder → after.stream ≡ now.stream → CallEnds border_says (asked task) before after 6 []
  ends_without_memory after folder same =
      stopping.short task before after (capture_stages task) (keeps after (ap (λ (d : DepotState). d.tells) folder ∙ crossing.told) (tells_still after same)) text begun
      (left_now after (λ told name. ap (λ (d : DepotState). d.held name) folder))
      (λ name. ap (λ (d : DepotState). d.appends name) folder ∙ crossing.appends name)
      (ap (λ (s : SinkState). s.faults) same ∙ crossing.way.faults)
      (inl (record { reads = λ name. ap (λ (d : DepotState). d.reads name) folder ∙ crossing.reads name; creates = λ name. ap (λ (d : DepotState). d.creates name) folder ∙ crossing.creates name }))
      (prefix_sent after.stream same)

  -- the read has failed
  pub ends_unread : (after : Outside) → OnlyReads {T = Option FrameHead} stop.ReadFault (Err stop.ReadFault) reader.name now.folder after.folder → reader.name ≡ task.input
      → (status : Status) → Printed waiting [] ReadFault status now.stream after.stream → CallEnds border_says (asked task) before after (status_number status) []
  ends_unread after read named status printed =
      stopping.ends_at_read task before after (keeps after (read.told ∙ crossing.told) (printed.told ∙ crossing.way.told)) text begun (left_now after read.kept) status
      (λ name. read.appends name ∙ crossing.appends name)
      (subst (λ (n : List ℕ). Rose (before.folder.reads n) (after.folder.reads n)) named
      (subst (λ (k : ℕ). Rose k (after.folder.reads reader.name)) (crossing.reads reader.name) (read.reads.cause refl)))
      may_pause
      (a_report_is_printed text waiting before.stream now.stream crossing.way [] ReadFault status after.stream printed)

  -- ---- one frame is in hand

  module _ (mid : Outside) (head : FrameHead) (octets : List ℕ) (next : Reader) (reads_are : OnlyReads {T = Option FrameHead} stop.ReadFault (Ok (Some head)) reader.name now.folder mid.folder) (stream : mid.stream ≡ now.stream)
      (none : hand ≡ []) (named : reader.name ≡ task.input) (apart : task.input ≢ task.output)
      (header : next.header ≡ reader.header) (place : next.place ≡ reader.place + (16 + length octets))
      (answer : IsTrue now.folder.tells → record_at reader.header.order reader.place (drop reader.place (octets_of (now.folder.held reader.name))) ≡ Ok (Some (record { head = head; octets = octets }))) where
    abbrev frame : CapturedFrame
    frame = record { head = head; link = reader.header.link; octets = octets }

    amid_taken : (told : IsTrue before.folder.tells) → IsAmid task before.folder.held mid.folder.held next (frame ∷ []) waits crossing.done crossing.made
    unfolding with_frame
    amid_taken told =
        let amid = crossing.amid told in
        let now_told = subst IsTrue (sym crossing.told) told in
        let held : now.folder.held reader.name ≡ Some amid.octets = ap now.folder.held named ∙ crossing.others told task.input apart ∙ amid.input in
        let here : record_at reader.header.order reader.place (drop reader.place amid.octets) ≡ Ok (Some (record { head = head; octets = octets })) =
        ap (λ (o : Option (List ℕ)). record_at reader.header.order reader.place (drop reader.place (octets_of o))) (sym held) ∙ answer now_told in
        let left = one_record reader amid.octets next octets head header place here in
        let behind = left_of (reads.Pcap next) amid.octets in
        record {
          octets = amid.octets;
          input = amid.input;
          all = amid.all
              ∙ ap (λ (h : List CapturedFrame). Ok (with_left reader (crossing.done ++ h) (left_of (reads.Pcap reader) amid.octets))) none
              ∙ ap (λ (d : List CapturedFrame). Ok (with_left reader d (left_of (reads.Pcap reader) amid.octets))) (append-nil crossing.done)
              ∙ ap (λ (l : FramesLeft). Ok (with_left reader crossing.done l)) left
              ∙ ap (λ (fs : List CapturedFrame). (let file : CaptureFile = record { format = format.Pcap reader.header.nanos; frames = fs; fault = behind.fault } in Ok file)) (sym (append_assoc crossing.done (frame ∷ []) behind.frames))
              ∙ ap (λ (h : CaptureHeader). (let file : CaptureFile = record { format = format.Pcap h.nanos; frames = (crossing.done ++ frame ∷ []) ++ behind.frames; fault = behind.fault } in Ok file)) (sym header);
          sent = amid.sent;
          here = reads_are.kept now_told task.output ∙ amid.here;
          whole = amid.whole ∙ ap (λ (h : CaptureHeader). file_octets (format.Pcap h.nanos) (written_frames crossing.done crossing.made)) (sym header);
        }

    pub takes : IsCrossing task plan before mid next (frame ∷ []) waits waiting counts
    takes = record {
      planned = crossing.planned;
      told = reads_are.told ∙ crossing.told;
      reads = λ name. reads_are.reads.ok name ∙ crossing.reads name;
      creates = λ name. reads_are.creates name ∙ crossing.creates name;
      appends = λ name. reads_are.appends name ∙ crossing.appends name;
      others = λ told name other. reads_are.kept (subst IsTrue (sym crossing.told) told) name ∙ crossing.others told name other;
      done = crossing.done;
      made = crossing.made;
      are = crossing.are;
      way = subst (IsUnderWay (concat (made_lines 1 crossing.made)) waiting before.stream) (sym stream) crossing.way;
      packets = crossing.packets;
      passed = crossing.passed;
      denied = crossing.denied;
      few = crossing.few;
      amid = amid_taken;
    }

  -- a read that hasn't failed leaves all as it is
  pub moved : {T : Type 0} (mid : Outside) (result : Result T FrameStop) → OnlyReads {T = T} stop.ReadFault result reader.name now.folder mid.folder → (IsErrOf result stop.ReadFault → ⊥) → mid.stream ≡ now.stream
      → IsCrossing task plan before mid reader hand waits waiting counts
  moved mid result read other stream = record {
    planned = crossing.planned;
    told = read.told ∙ crossing.told;
    reads = λ name. read.reads.still other name ∙ crossing.reads name;
    creates = λ name. read.creates name ∙ crossing.creates name;
    appends = λ name. read.appends name ∙ crossing.appends name;
    others = λ told name apart. read.kept (subst IsTrue (sym crossing.told) told) name ∙ crossing.others told name apart;
    done = crossing.done;
    made = crossing.made;
    are = crossing.are;
    way = subst (IsUnderWay (concat (made_lines 1 crossing.made)) waiting before.stream) (sym stream) crossing.way;
    packets = crossing.packets;
    passed = crossing.passed;
    denied = crossing.denied;
    few = crossing.few;
    amid = λ told. (let amid = crossing.amid told in record {
      octets = amid.octets;
      input = amid.input;
      all = amid.all;
      sent = amid.sent;
      here = read.kept (subst IsTrue (sym crossing.told) told) task.output ∙ amid.here;
      whole = amid.whole;
    });
  }

-- ---- the packet in hand is dealt with

kept_is : (nanos : Bool) (taken : CapturedFrame) (verdict : Result (Unit {0}) Denial) (packet : List ℕ)
    → file_frames (format.Pcap nanos) (written_frames (taken ∷ []) (made_of verdict packet ∷ [])) ≡ kept_of taken.head verdict packet
kept_is nanos taken (Ok x) packet = append-nil (frame_octets taken.head packet)
kept_is nanos taken (Err why) packet = refl

passed_is : (counts : Counts) (verdict : Result (Unit {0}) Denial) (packet : List ℕ) → counts.passed + count_passed (made_of verdict packet ∷ []) ≡ (after_counting counts verdict).passed
passed_is counts (Ok x) packet = omega arith
passed_is counts (Err why) packet = omega arith

denied_is : (counts : Counts) (verdict : Result (Unit {0}) Denial) (packet : List ℕ) → counts.denied + count_denied (made_of verdict packet ∷ []) ≡ (after_counting counts verdict).denied
denied_is counts (Ok x) packet = omega arith
denied_is counts (Err why) packet = omega arith

pub packets_is : (counts : Counts) (verdict : Result (Unit {0}) Denial) → (after_counting counts verdict).packets ≡ counts.packets + 1
packets_is counts (Ok x) = refl
packets_is counts (Err why) = refl

module _ (task : Task) (plan : DoiPlan) (before now : Outside) (reader : Reader) (frame : CapturedFrame) (waits waiting : List ℕ) (counts : Counts)
    (crossing : IsCrossing task plan before now reader (frame ∷ []) waits waiting counts) (verdict : Result (Unit {0}) Denial) (packet : List ℕ)
    (is : IsMadeOf task.way plan task.doi frame.link frame.octets (made_of verdict packet)) (more : counts.packets < packets_limit) where
  abbrev shown_text : List ℕ
  shown_text = concat (made_lines 1 crossing.made)

  abbrev line : List ℕ
  line = shown_of (counts.packets + 1) verdict

  abbrev kept : List ℕ
  kept = kept_of frame.head verdict packet

  abbrev all_done : List CapturedFrame
  all_done = crossing.done ++ frame ∷ []

  abbrev all_made : List Made
  all_made = crossing.made ++ made_of verdict packet ∷ []

  are_next : AreMadeOf task.way plan task.doi all_done all_made
  are_next = are_joined task.way plan task.doi crossing.done (frame ∷ []) crossing.made (made_of verdict packet ∷ []) crossing.are (is, tt)

  text_next : concat (made_lines 1 all_made) ≡ shown_text ++ line
  text_next =
      let m = made_of verdict packet in
      let number : 1 + length crossing.made ≡ counts.packets + 1 = omega (arith, are_counted task.way plan task.doi crossing.done crossing.made crossing.are, crossing.packets) in
      text_joined crossing.made (m ∷ [])
      ∙ ap (λ t. shown_text ++ t) (append-nil (made_packet_line (1 + length crossing.made) m) ∙ ap (λ k. made_packet_line k m) number ∙ sym (line_is (counts.packets + 1) verdict packet))

  octets_next : file_octets (format.Pcap reader.header.nanos) (written_frames all_done all_made) ≡ file_octets (format.Pcap reader.header.nanos) (written_frames crossing.done crossing.made) ++ kept
  octets_next =
      let form = format.Pcap reader.header.nanos in
      ap (file_octets form) (written_joined task.way plan task.doi crossing.done (frame ∷ []) crossing.made (made_of verdict packet ∷ []) crossing.are)
      ∙ octets_joined reader.header.nanos (written_frames crossing.done crossing.made) (written_frames (frame ∷ []) (made_of verdict packet ∷ []))
      ∙ ap (λ t. file_octets form (written_frames crossing.done crossing.made) ++ t) (kept_is reader.header.nanos frame verdict packet)

  all_next : (told : IsTrue before.folder.tells) → by_pcap (capture_of (crossing.amid told).octets) ≡ Ok (with_left reader (all_done ++ []) (left_of (reads.Pcap reader) (crossing.amid told).octets))
  all_next told =
      let amid = crossing.amid told in
      amid.all ∙ ap (λ (d : List CapturedFrame). Ok (with_left reader d (left_of (reads.Pcap reader) amid.octets))) (sym (append-nil all_done))

  -- what the call comes to begins with its line, and with its frame
  leads_next : (told : IsTrue before.folder.tells) → Leads task before.folder.held (shown_text ++ line) (file_octets (format.Pcap reader.header.nanos) (written_frames crossing.done crossing.made) ++ kept)
  leads_next told =
      let amid = crossing.amid told in
      let led = leads_amid task plan before crossing.planned told amid.octets amid.input reader all_done [] (left_of (reads.Pcap reader) amid.octets) (all_next told) all_made are_next
      (omega (arith, crossing.packets, more, length-append crossing.done (frame ∷ []))) in
      subst (λ (o : List ℕ). Leads task before.folder.held (shown_text ++ line) o) octets_next
      (subst (λ (t : List ℕ). Leads task before.folder.held t (file_octets (format.Pcap reader.header.nanos) (written_frames all_done all_made))) text_next led)

  leads_line : (told : IsTrue before.folder.tells) → Leads task before.folder.held (shown_text ++ line) (file_octets (format.Pcap reader.header.nanos) (written_frames crossing.done crossing.made))
  leads_line told = leads_less task before.folder.held (shown_text ++ line) (file_octets (format.Pcap reader.header.nanos) (written_frames crossing.done crossing.made)) kept (leads_next told)

  left_line : (after : Outside) → after.folder ≡ now.folder → (told : IsTrue before.folder.tells) → HasLeft (border_says (asked task)) before after (capture_stages task)
  left_line after same told =
      let amid = crossing.amid told in
      stopping.has_left task before after (shown_text ++ line) _ (leads_line told) amid.sent waits
      (ap (λ (d : DepotState). d.held task.output) same ∙ amid.here) amid.whole
      (λ name other. ap (λ (d : DepotState). d.held name) same ∙ crossing.others told name other)

  -- its line couldn't be printed
  pub ends_at_line : {T : Type 0} (after : Outside) (still : List ℕ) (fault : IoFault) → after.folder ≡ now.folder → HandsOn {T = T} line waiting still (Err fault) now.stream after.stream
      → CallEnds border_says (asked task) before after (status_number (write_status fault)) []
  ends_at_line after still fault same hands =
      stopping.ends_at_write task before after (stopping.keeps_capture task before after crossing.planned.begun (ap (λ (d : DepotState). d.tells) same ∙ crossing.told) (hands.told ∙ crossing.way.told)) (shown_text ++ line)
      (λ told. stopping.begins task before before (shown_text ++ line) _ (leads_line told)) (left_line after same) fault
      (λ name. ap (λ (d : DepotState). d.appends name) same ∙ crossing.appends name)
      (record { reads = λ name. ap (λ (d : DepotState). d.reads name) same ∙ crossing.reads name; creates = λ name. ap (λ (d : DepotState). d.creates name) same ∙ crossing.creates name })
      (λ failed. faults_rose_over_a_report shown_text waiting before.stream now.stream crossing.way after.stream (hands.counts.cause (ap Err failed)))
      (λ other. hands.counts.still (λ e. other (let is : fault ≡ Failed = cc in is)) ∙ crossing.way.faults)
      (a_report_breaks shown_text waiting before.stream now.stream crossing.way line after.stream hands.err)

  module _ {T : Type 0} (after : Outside) (x : T) (still waits' : List ℕ) (hands : HandsOn line waiting still (Ok x) now.stream after.stream) where
    way_next : IsUnderWay (shown_text ++ line) still before.stream after.stream
    way_next = a_report_goes_on shown_text waiting before.stream now.stream crossing.way line still x after.stream hands

    -- what was sent of the output in all
    appended_now : (result : Result (Unit {0}) IoFault) → HasAppended result task.output kept waits waits' now.folder after.folder → (told : IsTrue before.folder.tells)
        → (sent : List ℕ) × (rest : List ℕ) × (after.folder.held task.output ≡ Some sent) × (sent ++ rest ≡ file_octets (format.Pcap reader.header.nanos) (written_frames crossing.done crossing.made) ++ kept) × (OnOk result (rest ≡ waits'))
    appended_now result has told =
        let amid = crossing.amid told in
        let one = has.here (subst IsTrue (sym crossing.told) told) in
        let same : one.held ≡ amid.sent = let eq = sym one.was ∙ amid.here in cc in (
          amid.sent ++ one.sent,
          one.rest,
          one.now ∙ ap (λ h. Some (h ++ one.sent)) same,
          append_assoc amid.sent one.sent one.rest ∙ ap (λ t. amid.sent ++ t) one.all ∙ sym (append_assoc amid.sent waits kept) ∙ ap (λ t. t ++ kept) amid.whole,
          one.left,
        )

    others_next : (result : Result (Unit {0}) IoFault) → HasAppended result task.output kept waits waits' now.folder after.folder → (told : IsTrue before.folder.tells)
        → (name : List ℕ) → name ≢ task.output → after.folder.held name ≡ before.folder.held name
    others_next result has told name apart = has.others (subst IsTrue (sym crossing.told) told) name apart ∙ crossing.others told name apart

    -- its frame couldn't be appended
    pub ends_at_frame : (fault : IoFault) → HasAppended (Err fault) task.output kept waits waits' now.folder after.folder → CallEnds border_says (asked task) before after (status_number (write_status fault)) []
    ends_at_frame fault has =
        stopping.ends_at_append task before after (stopping.keeps_capture task before after crossing.planned.begun (has.frame.told ∙ crossing.told) way_next.told) (shown_text ++ line)
        (λ told. stopping.begins task before before (shown_text ++ line) _ (leads_next told))
        (λ told. let a = appended_now (Err fault) has told in stopping.has_left task before after (shown_text ++ line) _ (leads_next told) a.0 a.1 a.2 a.3 (others_next (Err fault) has told))
        fault
        (record { reads = λ name. has.frame.reads name ∙ crossing.reads name; creates = λ name. has.frame.creates name ∙ crossing.creates name })
        (λ failed. subst (λ (k : ℕ). Rose k (after.folder.appends task.output)) (crossing.appends task.output) (has.frame.appends.cause (ap Err failed)))
        (λ other name. has.frame.appends.still (λ e. other (let is : fault ≡ Failed = cc in is)) name ∙ crossing.appends name)
        way_next.faults
        (λ told. stopping.pauses task before before (shown_text ++ line) _ (leads_next told) (outcome_once task plan before crossing.planned told))
        (λ out. prefix_of way_next.goes.sent still (shown_text ++ line) before.stream.written after.stream.written way_next.goes.all (way_next.goes.written out))

    -- or it was, but for what waits
    pub deals : (y : Unit {0}) → HasAppended (Ok y) task.output kept waits waits' now.folder after.folder → IsCrossing task plan before after reader [] waits' still (after_counting counts verdict)
    deals y has = record {
      planned = crossing.planned;
      told = has.frame.told ∙ crossing.told;
      reads = λ name. has.frame.reads name ∙ crossing.reads name;
      creates = λ name. has.frame.creates name ∙ crossing.creates name;
      appends = λ name. has.frame.appends.ok name ∙ crossing.appends name;
      others = others_next (Ok y) has;
      done = all_done;
      made = all_made;
      are = are_next;
      way = subst (λ (t : List ℕ). IsUnderWay t still before.stream after.stream) (sym text_next) way_next;
      packets = omega (arith, length-append crossing.done (frame ∷ []), crossing.packets, packets_is counts verdict);
      passed = passed_joined crossing.made (made_of verdict packet ∷ []) ∙ ap (λ k. k + count_passed (made_of verdict packet ∷ [])) crossing.passed ∙ passed_is counts verdict packet;
      denied = denied_joined crossing.made (made_of verdict packet ∷ []) ∙ ap (λ k. k + count_denied (made_of verdict packet ∷ [])) crossing.denied ∙ denied_is counts verdict packet;
      few = omega (arith, more, packets_is counts verdict);
      amid = λ told. (let a = appended_now (Ok y) has told in record {
        octets = (crossing.amid told).octets;
        input = (crossing.amid told).input;
        all = all_next told;
        sent = a.0;
        here = a.2;
        whole = ap (λ w. a.0 ++ w) (sym a.4) ∙ a.3 ∙ sym octets_next;
      });
    }
