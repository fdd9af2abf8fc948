-- How a call ends whose capture was read to its end, to its fault, or to the limit of packets.
use Rattle.std.proofs.Common.{◌≡◌, ◌≢◌, ℕ, ◌<◌, ◌≤◌, List, [], ◌∷◌, ◌++◌, length, drop, take, Option, Some, None, Result, Ok, Err, refl, sym, ap, subst, ◌∙◌, append_assoc, length-append, arith, inl, inr}
use Rattle.std.specs.Prelude.{IsTrue, Contains}
use Rattle.std.specs.List.{concat}
use Rattle.std.specs.Option.{option_map, option_map_or}
use Rattle.std.proofs.lemmas.Bool.{lt-ltb, le-ltb}
use Rattle.std.proofs.lemmas.List.{append-nil, take_at, take_all}
use Rattle.net_io.specs.Depot.{octets_of}
use Rattle.net_io.specs.Faults.{Rose}
use Rattle.net_io.specs.Sink.{SinkState}
use Rattle.net_io.specs.declared.fault.IoFault.TheVariants.{Failed}
use Rattle.pcap_frames.specs.declared.fault.CaptureFault.{CaptureFault}
use Rattle.pcap_frames.specs.Reader.{Reader}
use Rattle.pcap_frames.specs.Record.{Frame, record_at}
use Rattle.doi_table.specs.declared.plan.DoiPlan.{DoiPlan}
use Rattle.captures.specs.declared.fault.FileFault.{FileFault}
use Rattle.captures.specs.declared.fault.FileFault.TheVariants as fault
use Rattle.captures.specs.declared.format.CaptureFormat.TheVariants as format
use Rattle.captures.specs.declared.reader.AnyFrames.TheVariants as reads
use Rattle.captures.specs.Frame.{CapturedFrame}
use Rattle.captures.specs.CaptureFile.{CaptureFile}
use Rattle.captures.specs.Reader.{FramesLeft, left_of}
use Rattle.captures.specs.Written.{file_octets}
use Rattle.captures.specs.Output.{HasAppended}
use Rattle.call_report.specs.declared.status.Status.{Status}
use Rattle.call_report.specs.declared.status.Status.TheVariants.{Done, WrongCapture, Limit}
use Rattle.call_report.specs.CallEnds.{CallEnds}
use Rattle.call_report.specs.Event.{Event, packets_limit, capture_event}
use Rattle.call_report.specs.Lines.Capture.{capture_line}
use Rattle.call_report.specs.Lines.Fixed.{packets_limit_line}
use Rattle.call_report.specs.Outside.{Outside}
use Rattle.call_report.specs.Status.{status_number}
use Rattle.call_report.proofs.Law.{a_report_takes_a_text, a_report_is_printed, Knows, IsDue, asks, none_when_done, ends_printed}
use Rattle.ripso_border_run.specs.declared.lines.Counts.{Counts}
use Rattle.ripso_border_run.specs.declared.task.Task.{Task}
use Rattle.ripso_border_run.specs.Frames.{AreMadeOf, written_frames, made_lines, count_passed, count_denied, border_report}
use Rattle.ripso_border_run.specs.Lines.{Made, crossed_end_line}
use Rattle.ripso_border_run.specs.Outcome.{Outcome, IsOutcome, capture_crossed}
use Rattle.ripso_border_run.specs.Says.{border_says, capture_stages, IsEnding}
use Rattle.ripso_border_run.specs.inside.Course.{with_left, IsCrossing, IsEnded, appended, unappended, without_memory}
use Rattle.ripso_border_run.proofs.Made.{are_counted, starts_contain}
use Rattle.ripso_border_run.proofs.Leading.{Leads, outcome_of}
use Rattle.ripso_border_run.proofs.Stopping as stopping
use Rattle.ripso_border_run.proofs.Stopping.{asked}
use Rattle.ripso_border_run.proofs.Ending.{records_are, leads, begun, keeps, may_pause, prefix_sent, ends_without_memory}

-- nothing more, or a fault: so many frames at the most
quiet_event : (most n : ℕ) (capture : CaptureFile) → length capture.frames ≡ n → n ≤ most
    → capture_event 1 most capture ≡ option_map (λ fault. record { status = 5; line = capture_line 1 fault }) capture.fault
quiet_event most n capture count few = rw (le-ltb most (length capture.frames) (omega (arith, count, few))) refl

full_event : (most : ℕ) (capture : CaptureFile) → most < length capture.frames → capture_event 1 most capture ≡ Some (record { status = 7; line = packets_limit_line })
full_event most capture more = rw (lt-ltb most (length capture.frames) more) refl

module _ (task : Task) (plan : DoiPlan) (before now : Outside) (reader : Reader) (hand : List CapturedFrame) (waits waiting : List ℕ) (counts : Counts)
    (crossing : IsCrossing task plan before now reader hand waits waiting counts) where
  abbrev text : List ℕ
  text = concat (made_lines 1 crossing.made)

  abbrev octets_made : List ℕ
  octets_made = file_octets (format.Pcap reader.header.nanos) (written_frames crossing.done crossing.made)

  abbrev file_told : IsTrue before.folder.tells → CaptureFile
  file_told told = with_left reader (crossing.done ++ hand) (left_of (reads.Pcap reader) (crossing.amid told).octets)

  -- the frames that are done are all that are read, and this event ends them
  pub record EndsBy (event : Option Event) (told : IsTrue before.folder.tells) : Type 0 where
    pub taken : take packets_limit (file_told told).frames ≡ crossing.done
    pub event_is : capture_event 1 packets_limit (file_told told) ≡ event

  module _ (event : Option Event) (ends : (told : IsTrue before.folder.tells) → EndsBy event told) where
    outcome : IsTrue before.folder.tells → Outcome
    outcome told = capture_crossed task.output (file_told told) crossing.made event

    is_outcome : (told : IsTrue before.folder.tells) → IsOutcome task before.folder.held (outcome told)
    unfolding outcome
    is_outcome told =
        let amid = crossing.amid told in
        let e = ends told in
        let are : AreMadeOf task.way plan task.doi (take packets_limit (file_told told).frames) crossing.made =
        subst (λ (fs : List CapturedFrame). AreMadeOf task.way plan task.doi fs crossing.made) (sym e.taken) crossing.are in
        subst (λ (x : Option Event). IsOutcome task before.folder.held (capture_crossed task.output (file_told told) crossing.made x)) e.event_is
        (outcome_of task plan before crossing.planned told amid.octets amid.input (file_told told) amid.all crossing.made are)

    body_is : (e : Option Event) → (rest : List ℕ) × ((border_report crossing.made e).body ≡ text ++ rest)
    body_is None = (crossed_end_line (length crossing.made) (count_passed crossing.made) (count_denied crossing.made), refl)
    body_is (Some x) = ([], sym (append-nil text))

    pauses_are : (e : Option Event) → Contains (border_report crossing.made e).pauses text
    pauses_are None = subst (λ (ms : List Made). Contains (border_report ms None).pauses text) (append-nil crossing.made) (starts_contain crossing.made [])
    pauses_are (Some x) = subst (λ (ms : List Made). Contains (border_report ms (Some x)).pauses text) (append-nil crossing.made) (starts_contain crossing.made [])

    final : (told : IsTrue before.folder.tells) → Leads task before.folder.held text octets_made
    unfolding outcome
    final told =
        let front = body_is event in
        record {
          outcome = outcome told;
          is = is_outcome told;
          rest = front.0;
          body = front.1;
          all = file_octets (format.Pcap reader.header.nanos) (written_frames (take packets_limit (file_told told).frames) crossing.made);
          more = [];
          splits = ap (λ (fs : List CapturedFrame). file_octets (format.Pcap reader.header.nanos) (written_frames fs crossing.made)) (ends told).taken ∙ sym (append-nil octets_made);
          outputs = refl;
          pauses = pauses_are event;
        }

    all_is : (told : IsTrue before.folder.tells) → octets_made ≡ (final told).all
    unfolding final
    all_is told = ap (λ (fs : List CapturedFrame). file_octets (format.Pcap reader.header.nanos) (written_frames fs crossing.made)) (sym (ends told).taken)

    final_is : (told : IsTrue before.folder.tells) → (final told).outcome ≡ capture_crossed task.output (file_told told) crossing.made event
    unfolding final outcome
    final_is told = refl

    module _ (after : Outside) (due status : Status) (tail line : List ℕ) (number : option_map_or (λ (e : Event). e.status) event 0 ≡ status_number due) (may : IsEnding (status_number due))
        (not_3 : status_number due ≢ 3) (not_4 : status_number due ≢ 4) (not_6 : status_number due ≢ 6) (not_1 : status_number due ≢ 1) (line_none : status_number due ≡ 0 → line ≡ [])
        (body : (border_report crossing.made event).body ≡ text ++ tail) (last : (border_report crossing.made event).last ≡ line) where
      has_form : asked task ≡ None → ⊥
      has_form none = absurd cc

      due_is : IsDue (border_says (asked task)) before (status_number due) (text ++ tail) line
      unfolding outcome
      due_is = record {
        event = (not_3, not_4, not_6);
        has = λ told. (outcome told, is_outcome told, ap Some number);
        may = may;
        parts = λ known. record { report = border_report crossing.made event; has = (outcome (known tt), is_outcome (known tt), refl); body = body; last = last };
        last = none_when_done due line line_none;
        whole = λ told. refl;
      }

      knows : (x : Unit {0}) (left : List ℕ) → HasAppended (Ok x) task.output [] waits left now.folder after.folder → left ≡ [] → after.stream.tells ≡ now.stream.tells
          → Knows (border_says (asked task)) before after (capture_stages task)
      knows x left has none told_stream = record {
        keeps = keeps task plan before now reader hand waits waiting counts crossing after (has.frame.told ∙ crossing.told) (told_stream ∙ crossing.way.told);
        made = λ told.
            let amid = crossing.amid told in
            let one = has.here (subst IsTrue (sym crossing.told) told) in
            let same : one.held ≡ amid.sent = let eq = sym one.was ∙ amid.here in cc in
            let nothing : one.rest ≡ [] = one.left ∙ none in
            let sent : one.sent ≡ waits = sym (append-nil one.sent) ∙ ap (λ r. one.sent ++ r) (sym nothing) ∙ one.all ∙ append-nil waits in
            let all : amid.sent ++ one.sent ≡ (final told).all = ap (λ s. amid.sent ++ s) sent ∙ amid.whole ∙ all_is told in
            stopping.has_made task before after text octets_made (final told) (one.now ∙ ap (λ h. Some (h ++ one.sent)) same ∙ ap Some all)
            (λ name apart. has.others (subst IsTrue (sym crossing.told) told) name apart ∙ crossing.others told name apart);
        creates = λ name. has.frame.creates name ∙ crossing.creates name;
        appends = λ name. has.frame.appends.ok name ∙ crossing.appends name;
      }

      ends_so : IsEnded task.output waits (waiting ++ tail) line due now after status → CallEnds border_says (asked task) before after (status_number status) []
      ends_so (appended x left has none printed) =
          ends_printed border_says (asked task) before after (capture_stages task) (knows x left has none printed.told) due (text ++ tail) line
          (asks (asked task) (status_number due) (text ++ tail) has_form not_1) due_is status (λ name. has.frame.reads name ∙ crossing.reads name)
          (a_report_is_printed (text ++ tail) (waiting ++ tail) before.stream now.stream (a_report_takes_a_text text waiting before.stream now.stream crossing.way tail) line due status after.stream printed)
      ends_so (unappended refused left has is same) =
          subst (λ (n : ℕ). CallEnds border_says (asked task) before after n []) (sym (ap status_number is))
          (stopping.ends_at_append task before after
          (keeps task plan before now reader hand waits waiting counts crossing after (has.frame.told ∙ crossing.told) (ap (λ (s : SinkState). s.tells) same ∙ crossing.way.told))
          text (begun task plan before now reader hand waits waiting counts crossing)
          (λ told.
          let amid = crossing.amid told in
          let one = has.here (subst IsTrue (sym crossing.told) told) in
          let held : one.held ≡ amid.sent = let eq = sym one.was ∙ amid.here in cc in
          stopping.has_left task before after text octets_made (leads task plan before now reader hand waits waiting counts crossing told) (amid.sent ++ one.sent) one.rest
          (one.now ∙ ap (λ h. Some (h ++ one.sent)) held)
          (append_assoc amid.sent one.sent one.rest ∙ ap (λ t. amid.sent ++ t) (one.all ∙ append-nil waits) ∙ amid.whole)
          (λ name apart. has.others (subst IsTrue (sym crossing.told) told) name apart ∙ crossing.others told name apart))
          refused
          (record { reads = λ name. has.frame.reads name ∙ crossing.reads name; creates = λ name. has.frame.creates name ∙ crossing.creates name })
          (λ failed. subst (λ (k : ℕ). Rose k (after.folder.appends task.output)) (crossing.appends task.output) (has.frame.appends.cause (ap Err failed)))
          (λ other name. has.frame.appends.still (λ e. other (let is_failed : refused ≡ Failed = cc in is_failed)) name ∙ crossing.appends name)
          (ap (λ (s : SinkState). s.faults) same ∙ crossing.way.faults)
          (may_pause task plan before now reader hand waits waiting counts crossing)
          (prefix_sent task plan before now reader hand waits waiting counts crossing after.stream same))
      ends_so (without_memory is folder same) =
          subst (λ (n : ℕ). CallEnds border_says (asked task) before after n []) (sym (ap status_number is))
          (ends_without_memory task plan before now reader hand waits waiting counts crossing after folder same)

  -- ---- the three ends

  -- of the file that is there
  said : (named : reader.name ≡ task.input) (apart : task.input ≢ task.output) (answer : Result (Option Frame) CaptureFault)
      → (IsTrue now.folder.tells → record_at reader.header.order reader.place (drop reader.place (octets_of (now.folder.held reader.name))) ≡ answer)
      → (told : IsTrue before.folder.tells) → record_at reader.header.order reader.place (drop reader.place (crossing.amid told).octets) ≡ answer
  said named apart answer says told =
      let amid = crossing.amid told in
      let held : now.folder.held reader.name ≡ Some amid.octets = ap now.folder.held named ∙ crossing.others told task.input apart ∙ amid.input in
      ap (λ (o : Option (List ℕ)). record_at reader.header.order reader.place (drop reader.place (octets_of o))) (sym held) ∙ says (subst IsTrue (sym crossing.told) told)

  none_left : (fault : Option FileFault) → hand ≡ [] → (told : IsTrue before.folder.tells) → left_of (reads.Pcap reader) (crossing.amid told).octets ≡ record { frames = []; fault = fault }
      → EndsBy (option_map (λ f. record { status = 5; line = capture_line 1 f }) fault) told
  none_left fault none told left =
      let file : CaptureFile = record { format = format.Pcap reader.header.nanos; frames = (crossing.done ++ []) ++ []; fault = fault } in
      let is : file_told told ≡ file = ap (λ (h : List CapturedFrame). with_left reader (crossing.done ++ h) (left_of (reads.Pcap reader) (crossing.amid told).octets)) none
      ∙ ap (λ (l : FramesLeft). with_left reader (crossing.done ++ []) l) left in
      let frames : (crossing.done ++ []) ++ [] ≡ crossing.done = append-nil (crossing.done ++ []) ∙ append-nil crossing.done in
      record {
        taken = ap (λ (f : CaptureFile). take packets_limit f.frames) is ∙ ap (take packets_limit) frames ∙ take_all packets_limit crossing.done (omega (arith, crossing.packets, crossing.few));
        event_is = ap (capture_event 1 packets_limit) is ∙ quiet_event packets_limit counts.packets file (ap length frames ∙ crossing.packets) crossing.few;
      }

  pub ends_whole : (after : Outside) (status : Status) → hand ≡ [] → reader.name ≡ task.input → task.input ≢ task.output
      → (IsTrue now.folder.tells → record_at reader.header.order reader.place (drop reader.place (octets_of (now.folder.held reader.name))) ≡ Ok None)
      → IsEnded task.output waits (waiting ++ crossed_end_line counts.packets counts.passed counts.denied) [] Done now after status → CallEnds border_says (asked task) before after (status_number status) []
  ends_whole after status none named apart answer ended =
      ends_so None (λ told. none_left None none told (records_are reader (crossing.amid told).octets (Ok None) (said named apart (Ok None) answer told)))
      after Done status (crossed_end_line counts.packets counts.passed counts.denied) [] refl (inl refl) (λ e. omega (arith, e)) (λ e. omega (arith, e)) (λ e. omega (arith, e)) (λ e. omega (arith, e)) (λ e. refl)
      (let packets : length crossing.made ≡ counts.packets = are_counted task.way plan task.doi crossing.done crossing.made crossing.are ∙ crossing.packets in
      λ i. text ++ crossed_end_line (packets i) (crossing.passed i) (crossing.denied i)) refl ended

  pub ends_broken : (after : Outside) (status : Status) (broken : CaptureFault) → hand ≡ [] → reader.name ≡ task.input → task.input ≢ task.output
      → (IsTrue now.folder.tells → record_at reader.header.order reader.place (drop reader.place (octets_of (now.folder.held reader.name))) ≡ Err broken)
      → IsEnded task.output waits waiting (capture_line 1 (fault.Pcap broken)) WrongCapture now after status → CallEnds border_says (asked task) before after (status_number status) []
  ends_broken after status broken none named apart answer ended =
      ends_so (Some (record { status = 5; line = capture_line 1 (fault.Pcap broken) }))
      (λ told. none_left (Some (fault.Pcap broken)) none told (records_are reader (crossing.amid told).octets (Err broken) (said named apart (Err broken) answer told)))
      after WrongCapture status [] (capture_line 1 (fault.Pcap broken)) refl (inr (inr (inl refl))) (λ e. omega (arith, e)) (λ e. omega (arith, e)) (λ e. omega (arith, e)) (λ e. omega (arith, e)) (λ e. absurd (omega (arith, e)))
      (sym (append-nil text)) refl
      (subst (λ (w : List ℕ). IsEnded task.output waits w (capture_line 1 (fault.Pcap broken)) WrongCapture now after status) (sym (append-nil waiting)) ended)

  pub ends_full : (after : Outside) (status : Status) (frame : CapturedFrame) → hand ≡ frame ∷ [] → counts.packets ≡ packets_limit
      → IsEnded task.output waits waiting packets_limit_line Limit now after status → CallEnds border_says (asked task) before after (status_number status) []
  ends_full after status frame one full ended =
      ends_so (Some (record { status = 7; line = packets_limit_line }))
      (λ told.
      let left = left_of (reads.Pcap reader) (crossing.amid told).octets in
      let split : (file_told told).frames ≡ crossing.done ++ (hand ++ left.frames) = append_assoc crossing.done hand left.frames in
      let many : packets_limit < length (file_told told).frames = omega (arith, ap length split, length-append crossing.done (hand ++ left.frames), length-append hand left.frames, ap length one, crossing.packets, full) in
      record {
        taken = ap (take packets_limit) split ∙ take_at crossing.done (hand ++ left.frames) packets_limit (crossing.packets ∙ full);
        event_is = full_event packets_limit (file_told told) many;
      })
      after Limit status [] packets_limit_line refl (inr (inr (inr (inr refl)))) (λ e. omega (arith, e)) (λ e. omega (arith, e)) (λ e. omega (arith, e)) (λ e. omega (arith, e)) (λ e. absurd (omega (arith, e)))
      (sym (append-nil text)) refl
      (subst (λ (w : List ℕ). IsEnded task.output waits w packets_limit_line Limit now after status) (sym (append-nil waiting)) ended)
