-- How a call of `show` ends, over plain values.
use Rattle.std.proofs.Common.{◌≡◌, ◌<◌, ◌≤◌, ℕ, ◌+◌, List, [], ◌∷◌, ◌++◌, length, Option, Some, None, Result, Ok, Err, refl, sym, ap, subst, ◌∙◌, arith, inl}
use Rattle.std.specs.Prelude.{IsTrue, Contains}
use Rattle.std.specs.Option.{option_map_or}
use Rattle.std.specs.Result.{IsErrOf}
use Rattle.net_io.specs.Depot.{DepotState, octets_of, SameHeld, OnlyReads}
use Rattle.net_io.specs.Faults.{Rose, SameCounts}
use Rattle.net_io.specs.declared.fault.IoFault.{IoFault}
use Rattle.net_io.specs.declared.fault.IoFault.TheVariants.{Failed, OutOfMemory as IoOutOfMemory}
use Rattle.pcap_frames.specs.declared.record.FrameHead.{FrameHead}
use Rattle.captures.specs.declared.packet_in.PacketIn.{PacketIn}
use Rattle.captures.specs.declared.format.CaptureFormat.{CaptureFormat}
use Rattle.captures.specs.declared.fault.FileFault.{FileFault}
use Rattle.captures.specs.declared.fault.FileFault.TheVariants.{Pcap, Pcapng}
use Rattle.captures.specs.declared.fault.ReadStop.{ReadStop}
use Rattle.captures.specs.declared.fault.ReadStop.TheVariants as stop
use Rattle.captures.specs.declared.reader.AnyFrames.{AnyFrames}
use Rattle.captures.specs.Frame.{CapturedFrame, packet_in}
use Rattle.captures.specs.CaptureFile.{CaptureFile, capture_file}
use Rattle.captures.specs.Reader.{file_name_of, format_of, left_of, IsFileBegun, IsNextFrame}
use Rattle.netlabel_run.specs.declared.command.Command.{Command}
use Rattle.netlabel_run.specs.declared.command.Command.TheVariants.{Show}
use Rattle.call_report.specs.declared.status.Status.{Status}
use Rattle.call_report.specs.declared.status.Status.TheVariants.{Done, ReadFault, WrongCapture, OutOfMemory, Limit}
use Rattle.call_report.specs.Lines.Packet.{shown_line, shown_end_line, IsShown}
use Rattle.call_report.specs.Lines.Capture.{capture_line}
use Rattle.call_report.specs.Lines.Fixed.{packets_limit_line}
use Rattle.call_report.specs.Event.{Event, packets_limit}
use Rattle.call_report.specs.CallEnds.{CallEnds, KnowsReport}
use Rattle.netlabel_run.specs.Show.{lines_report, CaptureReport, ShowReport, ShowStatus, capture_status, show_says}
use Rattle.netlabel_run.specs.Commands.{netlabel_says}
use Rattle.call_report.specs.Report.{Folder, Report, late_report}
use Rattle.call_report.specs.Stages.{reading_stage}
use Rattle.call_report.specs.Outside.{Outside}
use Rattle.call_report.specs.Status.{status_number, write_status}
use Rattle.call_report.specs.Printing.{HandsOn, IsUnderWay, Printed}
use Rattle.netlabel_run.specs.inside.Stopping.{stop_line, stop_status}
use Rattle.call_report.proofs.Law.{a_report_begins, a_report_takes_a_text, a_report_goes_on, a_report_breaks, faults_rose_over_a_report, a_report_is_printed}
use Rattle.call_report.proofs.Law.{Knows, Begins, HasParts, IsDue, asks, none_when_done, only_read, knows_file, ends_printed, ends_short, ends_unwritten, ends_stopped_short, ends_stopped_unread}
use Rattle.netlabel_run.proofs.Once.{show_report_once}
use Rattle.call_report.specs.Outside.{IsOnlyRead}
use Rattle.netlabel_run.proofs.Answer.{lines_count}
use Rattle.netlabel_run.proofs.Showing.{IsAmid, amid_start, amid_next, Ends, ends_report, ends_status, ends_whole, ends_broken, ends_full, has_front, front_pauses, HasFront, some_report, first_pause, empty_is_broken, capture_with, whole_status, full_status}

-- ---- the folder

-- a folder of which nothing has moved
pub record IsUnmoved (old new : DepotState) : Type 0 where
  pub told : new.tells ≡ old.tells
  pub kept : IsTrue old.tells → SameHeld old.held new.held
  pub reads : SameCounts old.reads new.reads
  pub creates : SameCounts old.creates new.creates
  pub appends : SameCounts old.appends new.appends

pub unmoved : {T E : Type 0} (failed : E) (x : T) (name : List ℕ) (old new : DepotState) → OnlyReads {T = T} {E = E} failed (Ok x) name old new → IsUnmoved old new
unmoved failed x name old new reads = record { told = reads.told; kept = reads.kept; reads = reads.reads.ok; creates = reads.creates; appends = reads.appends }

module _ (a b c : DepotState) (same : IsUnmoved a b) where
  then_read : {T E : Type 0} (failed : E) (result : Result T E) (name : List ℕ) → OnlyReads {T = T} {E = E} failed result name b c → IsOnlyRead a c
  then_read failed result name reads = record {
    told = reads.told ∙ same.told;
    kept = λ told name. reads.kept (subst IsTrue (sym same.told) told) name ∙ same.kept told name;
    creates = λ name. reads.creates name ∙ same.creates name;
    appends = λ name. reads.appends name ∙ same.appends name;
  }

  then_unmoved : {T E : Type 0} (failed : E) (x : T) (name : List ℕ) → OnlyReads {T = T} {E = E} failed (Ok x) name b c → IsUnmoved a c
  then_unmoved failed x name reads =
      let only = then_read failed (Ok x) name reads in
      record { told = only.told; kept = only.kept; reads = λ name. reads.reads.ok name ∙ same.reads name; creates = only.creates; appends = only.appends }

  then_rose : {T E : Type 0} (failed : E) (name file : List ℕ) → name ≡ file → OnlyReads {T = T} {E = E} failed (Err failed) name b c → Rose (a.reads file) (c.reads file)
  then_rose failed name file named reads =
      subst (λ (n : List ℕ). Rose (a.reads n) (c.reads n)) named (subst (λ (k : ℕ). Rose k (c.reads name)) (same.reads name) (reads.reads.cause refl))

-- ---- what the call asks for

module _ (file : List ℕ) where
  abbrev asked : Option Command
  asked = Some (Show file)

  has_form : asked ≡ None → ⊥
  has_form e = absurd cc

  knows_show : (before after : Outside) → IsOnlyRead before.folder after.folder → after.stream.tells ≡ before.stream.tells → Knows (show_says file) before after (reading_stage file ∷ [])
  knows_show before after reads told = knows_file file ShowReport ShowStatus (Unit {0}) before after reads told

  -- a front of a told capture's report begins the report of the call
  front_begins : (held : Folder) (octets text : List ℕ) → held file ≡ Some octets → HasFront octets text → Begins (show_says file) held text
  front_begins held octets text is front = record {
    report = front.report;
    has = subst (λ (f : Option (List ℕ)). ShowReport f front.report) (sym is) front.has;
    rest = front.rest;
    body = front.body;
  }

  -- what is due of a capture, by its body, the event's line and the status that is told
  show_due : (before : Outside) (due : Status) (body last octets' : List ℕ) → status_number due ≡ capture_status (capture_file octets') → (status_number due ≡ 3 → ⊥) → (status_number due ≡ 4 → ⊥) → (status_number due ≡ 6 → ⊥)
      → (status_number due ≡ 0 → last ≡ []) → (IsTrue before.folder.tells → (show_says file).status before.folder.held (status_number due)) → (KnowsReport (show_says file) before.folder → HasParts (show_says file) before.folder.held body last) → IsDue (show_says file) before (status_number due) body last
  show_due before due body last octets' may not_3 not_4 not_6 done has parts = record {
    event = (not_3, not_4, not_6);
    has = has;
    may = (λ name. Some octets', may);
    parts = parts;
    last = none_when_done due last done;
    whole = λ told. refl;
  }

  -- the report of a capture that ends so
  module _ (held : Folder) (octets : List ℕ) (is : held file ≡ Some octets) (frames : List CapturedFrame) (event : Option Event) (ends : Ends octets frames event) where
    ends_due : (show_says file).status held (option_map_or (λ (e : Event). e.status) event 0)
    ends_due = subst (λ (f : Option (List ℕ)). ShowStatus f (option_map_or (λ (e : Event). e.status) event 0)) (sym is) (ends_status octets frames event ends)

    ends_has : (lines : List (List ℕ)) → CaptureReport (capture_file octets) (lines_report lines event) → (show_says file).report held [] (lines_report lines event)
    ends_has lines report = subst (λ (f : Option (List ℕ)). ShowReport f (lines_report lines event)) (sym is) report

-- ---- in front of a frame

-- Nothing has failed, and so many frames were shown; the reader stands in front of the next.
pub record IsShowing (file : List ℕ) (before now : Outside) (reader : AnyFrames) (waiting : List ℕ) (n : ℕ) : Type 0 where
  pub name : file_name_of reader ≡ file
  pub same : IsUnmoved before.folder now.folder
  pub text : List ℕ
  pub way : IsUnderWay text waiting before.stream now.stream
  pub told : IsTrue before.folder.tells → (octets : List ℕ) × (before.folder.held file ≡ Some octets) × IsAmid octets (format_of reader) (left_of reader octets) n text
  pub few : n ≤ packets_limit

pub shows_start : (file : List ℕ) (before now : Outside) (reader : AnyFrames) (waiting : List ℕ) → file_name_of reader ≡ file → waiting ≡ [] → now.stream ≡ before.stream → IsUnmoved before.folder now.folder
    → (IsTrue before.folder.tells → IsFileBegun (Ok reader) (before.folder.held file)) → IsShowing file before now reader waiting 0
shows_start file before now reader waiting name none stream same begun = record {
  name = name;
  same = same;
  text = [];
  way = subst (λ (w : List ℕ). IsUnderWay [] w before.stream now.stream) (sym none) (subst (IsUnderWay [] [] before.stream) (sym stream) (a_report_begins before.stream));
  told = λ told. let b = begun told in (b.0, b.1, amid_start b.0 (format_of reader) (left_of reader b.0) b.2);
  few = omega arith;
}

module _ (file : List ℕ) (before now after : Outside) (reader : AnyFrames) (waiting : List ℕ) (n : ℕ) (showing : IsShowing file before now reader waiting n) where
  -- what `next` has left of the folder
  abbrev Reads : Result (Option FrameHead) ReadStop → Type 0
  Reads result = OnlyReads stop.ReadFault result (file_name_of reader) now.folder after.folder

  -- and what it has answered of a file, with this packet, where it is left so
  abbrev Answers : PacketIn → AnyFrames → Result (Option FrameHead) ReadStop → List ℕ → Type 0
  Answers packet next result file = IsNextFrame result packet (left_of reader file) (left_of next file)

  -- of the file that is there
  abbrev Said : PacketIn → AnyFrames → Result (Option FrameHead) ReadStop → Type 0
  Said packet next result = IsTrue now.folder.tells → Answers packet next result (octets_of (now.folder.held (file_name_of reader)))

  only : (result : Result (Option FrameHead) ReadStop) → Reads result → IsOnlyRead before.folder after.folder
  only result reads = then_read before.folder now.folder after.folder showing.same stop.ReadFault result (file_name_of reader) reads

  said : (packet : PacketIn) (next : AnyFrames) (result : Result (Option FrameHead) ReadStop) → Said packet next result → (told : IsTrue before.folder.tells) → Answers packet next result (showing.told told).0
  said packet next result answer told =
      let held : now.folder.held (file_name_of reader) ≡ Some (showing.told told).0 = showing.same.kept told (file_name_of reader) ∙ ap before.folder.held showing.name ∙ (showing.told told).1 in
      subst (Answers packet next result) (ap octets_of held) (answer (subst IsTrue (sym showing.same.told) told))

  -- what is known of the report
  abbrev KnowsIt : Type 0
  KnowsIt = KnowsReport (show_says file) before.folder

  begins : KnowsIt → Begins (show_says file) before.folder.held showing.text
  begins known =
      let t = showing.told (known tt) in
      front_begins file before.folder.held t.0 showing.text t.1 (has_front t.0 (format_of reader) (left_of reader t.0) n showing.text t.2 showing.few)

  pauses : KnowsIt → (report : Report) → (show_says file).report before.folder.held [] report → Contains report.pauses showing.text
  pauses known report has =
      let t = showing.told (known tt) in
      let front = has_front t.0 (format_of reader) (left_of reader t.0) n showing.text t.2 showing.few in
      let mine : ShowReport (before.folder.held file) front.report = subst (λ (f : Option (List ℕ)). ShowReport f front.report) (sym t.1) front.has in
      subst (λ (r : Report). Contains r.pauses showing.text) (show_report_once (before.folder.held file) front.report report mine has)
      (front_pauses t.0 (format_of reader) (left_of reader t.0) n showing.text t.2 showing.few)

  knows : (result : Result (Option FrameHead) ReadStop) → Reads result → after.stream.tells ≡ now.stream.tells → Knows (show_says file) before after (reading_stage file ∷ [])
  knows result reads told = knows_show file before after (only result reads) (told ∙ showing.way.told)

  -- no read has failed but where the reader tells that one has
  same_reads : (result : Result (Option FrameHead) ReadStop) → Reads result → (IsErrOf result stop.ReadFault → ⊥) → SameCounts before.folder.reads after.folder.reads
  same_reads result reads other name = reads.reads.still other name ∙ showing.same.reads name

  -- the capture ends so
  abbrev EndsBy : Option Event → Type 0
  EndsBy event = (told : IsTrue before.folder.tells) → Ends (showing.told told).0 (showing.told told).2.frames event

  -- the parts of a report whose event is known
  parts : (event : Option Event) → EndsBy event → (told : IsTrue before.folder.tells) → (show_says file).report before.folder.held [] (lines_report (showing.told told).2.lines event)
  parts event ends told =
      let t = showing.told told in
      let amid = t.2 in
      ends_has file before.folder.held t.0 t.1 amid.frames event (ends told) amid.lines (ends_report t.0 amid.frames amid.lines event (ends told) amid.are)

  due : (event : Option Event) → EndsBy event → IsTrue before.folder.tells → (show_says file).status before.folder.held (option_map_or (λ (e : Event). e.status) event 0)
  due event ends told = let t = showing.told told in ends_due file before.folder.held t.0 t.1 t.2.frames event (ends told)

  -- the capture's end
  pub ends_at_end : (packet : PacketIn) (next : AnyFrames) (status : Status) → Reads (Ok None) → Said packet next (Ok None)
      → Printed (waiting ++ shown_end_line n) [] Done status now.stream after.stream → CallEnds netlabel_says (asked file) before after (status_number status) []
  ends_at_end packet next status reads answer printed =
      let end = shown_end_line n in
      let whole : EndsBy None =
      λ told. let t = showing.told told in ends_whole t.0 (format_of reader) (left_of reader t.0) n showing.text t.2 showing.few (said packet next (Ok None) answer told).0 in
      let has : KnowsIt → HasParts (show_says file) before.folder.held (showing.text ++ end) [] = λ known.
      let amid = (showing.told (known tt)).2 in
      let count : length amid.lines ≡ n = lines_count 1 amid.frames amid.lines amid.are ∙ amid.count in
      record { report = lines_report amid.lines None; has = parts None whole (known tt); body = λ i. sym amid.is i ++ shown_end_line (count i); last = refl } in
      ends_printed netlabel_says (asked file) before after (reading_stage file ∷ []) (knows (Ok None) reads printed.told) Done (showing.text ++ end) []
      (asks (asked file) 0 (showing.text ++ end) (has_form file) (λ e. omega (arith, e)))
      (show_due file before Done (showing.text ++ end) [] (capture_with 0) whole_status (λ e. omega (arith, e)) (λ e. omega (arith, e)) (λ e. omega (arith, e)) (λ e. refl) (due None whole) has)
      status (same_reads (Ok None) reads (λ failed. absurd cc))
      (a_report_is_printed (showing.text ++ end) (waiting ++ end) before.stream now.stream (a_report_takes_a_text showing.text waiting before.stream now.stream showing.way end) [] Done status after.stream printed)

  -- an event in front of the capture's end
  ends_by : (result : Result (Option FrameHead) ReadStop) (kind : Status) (line octets' : List ℕ) (status : Status) → Reads result → (IsErrOf result stop.ReadFault → ⊥)
      → status_number kind ≡ capture_status (capture_file octets') → (status_number kind ≡ 3 → ⊥) → (status_number kind ≡ 4 → ⊥) → (status_number kind ≡ 6 → ⊥) → (status_number kind ≡ 1 → ⊥) → (status_number kind ≡ 0 → ⊥)
      → EndsBy (Some (record { status = status_number kind; line = line }))
      → Printed waiting line kind status now.stream after.stream → CallEnds netlabel_says (asked file) before after (status_number status) []
  ends_by result kind line octets' status reads other may not_3 not_4 not_6 not_1 not_0 ends printed =
      let event : Option Event = Some (record { status = status_number kind; line = line }) in
      let has : KnowsIt → HasParts (show_says file) before.folder.held showing.text line = λ known.
      let amid = (showing.told (known tt)).2 in
      record { report = lines_report amid.lines event; has = parts event ends (known tt); body = sym amid.is; last = refl } in
      ends_printed netlabel_says (asked file) before after (reading_stage file ∷ []) (knows result reads printed.told) kind showing.text line
      (asks (asked file) (status_number kind) showing.text (has_form file) not_1)
      (show_due file before kind showing.text line octets' may not_3 not_4 not_6 (λ e. absurd (not_0 e)) (due event ends) has)
      status (same_reads result reads other)
      (a_report_is_printed showing.text waiting before.stream now.stream showing.way line kind status after.stream printed)

  -- one packet too many
  pub ends_at_limit : (head : FrameHead) (packet : PacketIn) (next : AnyFrames) (status : Status) → n ≡ packets_limit → Reads (Ok (Some head)) → Said packet next (Ok (Some head))
      → Printed waiting packets_limit_line Limit status now.stream after.stream → CallEnds netlabel_says (asked file) before after (status_number status) []
  ends_at_limit head packet next status full reads answer printed =
      ends_by (Ok (Some head)) Limit packets_limit_line (capture_with 1048577) status reads (λ failed. absurd cc) full_status (λ e. omega (arith, e)) (λ e. omega (arith, e)) (λ e. omega (arith, e)) (λ e. omega (arith, e)) (λ e. omega (arith, e))
      (λ told.
      let t = showing.told told in
      let taken = said packet next (Ok (Some head)) answer told in
      ends_full t.0 (format_of reader) (left_of reader t.0) n showing.text t.2 showing.few taken.0 (left_of next t.0) full taken.3)
      printed

  -- the capture is broken
  ends_at_fault : (why : ReadStop) (fault : FileFault) (status : Status) → Reads (Err why) → (IsErrOf {T = Option FrameHead} (Err why) stop.ReadFault → ⊥)
      → ((told : IsTrue before.folder.tells) → left_of reader (showing.told told).0 ≡ record { frames = []; fault = Some fault })
      → Printed waiting (capture_line 1 fault) WrongCapture status now.stream after.stream → CallEnds netlabel_says (asked file) before after (status_number status) []
  ends_at_fault why fault status reads other there printed =
      ends_by (Err why) WrongCapture (capture_line 1 fault) [] status reads other empty_is_broken (λ e. omega (arith, e)) (λ e. omega (arith, e)) (λ e. omega (arith, e)) (λ e. omega (arith, e)) (λ e. omega (arith, e))
      (λ told. let t = showing.told told in ends_broken t.0 (format_of reader) (left_of reader t.0) n showing.text t.2 showing.few fault (there told))
      printed

  -- the reader has stopped
  pub ends_at_stop : (why : ReadStop) (packet : PacketIn) (next : AnyFrames) (status : Status) → Reads (Err why) → Said packet next (Err why)
      → Printed waiting (stop_line why) (stop_status why) status now.stream after.stream → CallEnds netlabel_says (asked file) before after (status_number status) []
  ends_at_stop (stop.Capture fault) packet next status reads answer printed =
      ends_at_fault (stop.Capture fault) (Pcap fault) status reads (λ failed. absurd cc) (said packet next (Err (stop.Capture fault)) answer) printed
  ends_at_stop (stop.Ng fault) packet next status reads answer printed =
      ends_at_fault (stop.Ng fault) (Pcapng fault) status reads (λ failed. absurd cc) (said packet next (Err (stop.Ng fault)) answer) printed
  ends_at_stop stop.ReadFault packet next status reads answer printed =
      ends_stopped_unread netlabel_says (asked file) before after (reading_stage file ∷ []) (knows (Err stop.ReadFault) reads printed.told) showing.text (has_form file) begins status
      (record { name = file; in_hand = refl; rose = then_rose before.folder now.folder after.folder showing.same stop.ReadFault (file_name_of reader) file showing.name reads })
      pauses tt
      (a_report_is_printed showing.text waiting before.stream now.stream showing.way [] ReadFault status after.stream printed)
  ends_at_stop stop.OutOfMemory packet next status reads answer printed =
      ends_stopped_short netlabel_says (asked file) before after (reading_stage file ∷ []) (knows (Err stop.OutOfMemory) reads printed.told) showing.text (has_form file) begins status
      (same_reads (Err stop.OutOfMemory) reads (λ failed. absurd cc))
      (a_report_is_printed showing.text waiting before.stream now.stream showing.way [] OutOfMemory status after.stream printed)

  -- ---- one packet more

  module _ (head : FrameHead) (packet : PacketIn) (next : AnyFrames) (s : List ℕ) (few : n < packets_limit) (reads : Reads (Ok (Some head))) (answer : Said packet next (Ok (Some head)))
      (format : format_of next ≡ format_of reader) (shown : IsShown packet s) where
    amid_more : (told : IsTrue before.folder.tells) → IsAmid (showing.told told).0 (format_of next) (left_of next (showing.told told).0) (n + 1) (showing.text ++ shown_line (n + 1) s)
    amid_more told =
        let t = showing.told told in
        let taken = said packet next (Ok (Some head)) answer told in
        let is : IsShown (packet_in taken.0) s = subst (λ (p : PacketIn). IsShown p s) (sym taken.2) shown in
        subst (λ (f : CaptureFormat). IsAmid t.0 f (left_of next t.0) (n + 1) (showing.text ++ shown_line (n + 1) s)) (sym format)
        (amid_next t.0 (format_of reader) (left_of reader t.0) (left_of next t.0) n showing.text s taken.0 t.2 taken.3 is)

    -- its line was handed on
    pub shows_next : {T : Type 0} (still : List ℕ) (x : T) → file_name_of next ≡ file_name_of reader → HandsOn (shown_line (n + 1) s) waiting still (Ok x) now.stream after.stream
        → IsShowing file before after next still (n + 1)
    shows_next still x name hands = record {
      name = name ∙ showing.name;
      same = then_unmoved before.folder now.folder after.folder showing.same stop.ReadFault (Some head) (file_name_of reader) reads;
      text = showing.text ++ shown_line (n + 1) s;
      way = a_report_goes_on showing.text waiting before.stream now.stream showing.way (shown_line (n + 1) s) still x after.stream hands;
      told = λ told. let t = showing.told told in (t.0, t.1, amid_more told);
      few = omega (arith, few);
    }

    write_front : KnowsIt → Begins (show_says file) before.folder.held (showing.text ++ shown_line (n + 1) s)
    write_front known =
        let t = showing.told (known tt) in
        let text = showing.text ++ shown_line (n + 1) s in
        front_begins file before.folder.held t.0 text t.1 (has_front t.0 (format_of next) (left_of next t.0) (n + 1) text (amid_more (known tt)) (omega (arith, few)))

    -- or was not
    pub ends_at_write : {T : Type 0} (still : List ℕ) (fault : IoFault) → HandsOn {T = T} (shown_line (n + 1) s) waiting still (Err fault) now.stream after.stream
        → CallEnds netlabel_says (asked file) before after (status_number (write_status fault)) []
    ends_at_write still Failed hands =
        let line = shown_line (n + 1) s in
        ends_unwritten netlabel_says (asked file) before after (reading_stage file ∷ []) (knows (Ok (Some head)) reads hands.told) (showing.text ++ line) (has_form file)
        (inl (same_reads (Ok (Some head)) reads (λ failed. absurd cc)))
        (faults_rose_over_a_report showing.text waiting before.stream now.stream showing.way after.stream (hands.counts.cause refl))
        (a_report_breaks showing.text waiting before.stream now.stream showing.way line after.stream hands.err)
        write_front
    ends_at_write still IoOutOfMemory hands =
        let line = shown_line (n + 1) s in
        let breaks = a_report_breaks showing.text waiting before.stream now.stream showing.way line after.stream hands.err in
        ends_short netlabel_says (asked file) before after (reading_stage file ∷ []) (knows (Ok (Some head)) reads hands.told) (showing.text ++ line)
        (inl (same_reads (Ok (Some head)) reads (λ failed. absurd cc))) (hands.counts.still (λ failed. absurd cc) ∙ showing.way.faults)
        write_front
        (λ out. let less = breaks.written out in record { count = less.count; within = omega (arith, less.within); written = less.written })

-- ---- a capture that can't be begun

module _ (file : List ℕ) (before after : Outside) where
  any_begins : KnowsReport (show_says file) before.folder → Begins (show_says file) before.folder.held []
  any_begins known = let r = some_report (before.folder.held file) in record { report = r.0; has = r.1; rest = r.0.body; body = refl }

  abbrev Began : ReadStop → Type 0
  Began why = OnlyReads {T = AnyFrames} stop.ReadFault (Err why) file before.folder after.folder

  knows_begun : (why : ReadStop) → Began why → after.stream.tells ≡ before.stream.tells → Knows (show_says file) before after (reading_stage file ∷ [])
  knows_begun why reads told = knows_show file before after (only_read stop.ReadFault (Err why) file before.folder after.folder reads) told

  -- since its beginning is broken
  ends_at_begin : (why : ReadStop) (fault : FileFault) (status : Status) → Began why → (IsErrOf {T = AnyFrames} (Err why) stop.ReadFault → ⊥)
      → (IsTrue before.folder.tells → (octets : List ℕ) × (before.folder.held file ≡ Some octets) × (capture_file octets ≡ Err fault))
      → Printed [] (capture_line 1 fault) WrongCapture status before.stream after.stream → CallEnds netlabel_says (asked file) before after (status_number status) []
  ends_at_begin why fault status reads other there printed =
      let report = late_report [] (capture_line 1 fault) in
      ends_printed netlabel_says (asked file) before after (reading_stage file ∷ []) (knows_begun why reads printed.told) WrongCapture [] (capture_line 1 fault)
      (asks (asked file) 5 [] (has_form file) (λ e. omega (arith, e)))
      (show_due file before WrongCapture [] (capture_line 1 fault) [] empty_is_broken (λ e. omega (arith, e)) (λ e. omega (arith, e)) (λ e. omega (arith, e)) (λ e. absurd (omega (arith, e)))
      (λ told. let t = there told in subst (λ (f : Option (List ℕ)). ShowStatus f 5) (sym t.1) (ap capture_status (sym t.2)))
      (λ known. let t = there (known tt) in record {
        report = report;
        has = subst (λ (f : Option (List ℕ)). ShowReport f report) (sym t.1) (subst (λ (r : Result CaptureFile FileFault). CaptureReport r report) (sym t.2) refl);
        body = refl;
        last = refl;
      }))
      status (reads.reads.still other) printed

  pub ends_unbegun : (why : ReadStop) (status : Status) → Began why → (IsTrue before.folder.tells → IsFileBegun (Err why) (before.folder.held file))
      → Printed [] (stop_line why) (stop_status why) status before.stream after.stream → CallEnds netlabel_says (asked file) before after (status_number status) []
  ends_unbegun (stop.Capture fault) status reads answer printed = ends_at_begin (stop.Capture fault) (Pcap fault) status reads (λ failed. absurd cc) answer printed
  ends_unbegun (stop.Ng fault) status reads answer printed = ends_at_begin (stop.Ng fault) (Pcapng fault) status reads (λ failed. absurd cc) answer printed
  ends_unbegun stop.ReadFault status reads answer printed =
      ends_stopped_unread netlabel_says (asked file) before after (reading_stage file ∷ []) (knows_begun stop.ReadFault reads printed.told) [] (has_form file) any_begins status
      (record { name = file; in_hand = refl; rose = reads.reads.cause refl })
      (λ known report has. first_pause (before.folder.held file) report has) tt printed
  ends_unbegun stop.OutOfMemory status reads answer printed =
      ends_stopped_short netlabel_says (asked file) before after (reading_stage file ∷ []) (knows_begun stop.OutOfMemory reads printed.told) [] (has_form file) any_begins status (reads.reads.still (λ failed. absurd cc)) printed
