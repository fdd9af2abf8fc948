-- How a call begins its capture, or ends at its beginning.
use Rattle.std.proofs.Common.{◌≡◌, ℕ, Bool, List, [], Option, Some, None, Result, Ok, Err, refl, sym, ap, subst, ◌∙◌, arith, inl, inr}
use Rattle.std.specs.Prelude.{IsTrue, IsSome}
use Rattle.std.specs.Result.{IsErrOf}
use Rattle.std.proofs.lemmas.List.{append-nil}
use Rattle.net_io.specs.Depot.{SameHeld, octets_of, NowHolds, OnlyReads, OnlyCreates}
use Rattle.net_io.specs.Faults.{Rose, SameCounts}
use Rattle.net_io.specs.Sink.{SinkState}
use Rattle.net_io.specs.declared.fault.IoFault.{IoFault}
use Rattle.net_io.specs.declared.fault.IoFault.TheVariants.{Failed}
use Rattle.pcap_frames.specs.declared.fault.CaptureFault.{CaptureFault}
use Rattle.pcap_frames.specs.declared.fault.FrameStop.{FrameStop}
use Rattle.pcap_frames.specs.declared.fault.FrameStop.TheVariants as stop
use Rattle.pcap_frames.specs.declared.header.CaptureHeader.{CaptureHeader}
use Rattle.pcap_frames.specs.Header.{capture_header}
use Rattle.pcap_frames.specs.Capture.{capture_by, capture_of}
use Rattle.pcap_frames.specs.Reader.{Reader}
use Rattle.pcap_frames.specs.Written.{capture_head_octets}
use Rattle.doi_table.specs.declared.plan.DoiPlan.{DoiPlan}
use Rattle.captures.specs.declared.fault.FileFault.{FileFault}
use Rattle.captures.specs.declared.fault.FileFault.TheVariants as fault
use Rattle.captures.specs.declared.reader.AnyFrames.TheVariants as reads
use Rattle.captures.specs.CaptureFile.{CaptureFile, by_pcap}
use Rattle.captures.specs.Reader.{left_of}
use Rattle.call_report.specs.declared.status.Status.{Status}
use Rattle.call_report.specs.declared.status.Status.TheVariants.{WrongCapture}
use Rattle.call_report.specs.CallEnds.{CallEnds}
use Rattle.call_report.specs.Lines.Capture.{capture_line}
use Rattle.call_report.specs.Outside.{Outside}
use Rattle.call_report.specs.Printing.{IsUnderWay, Printed}
use Rattle.call_report.specs.Status.{status_number}
use Rattle.call_report.proofs.Law.{a_report_begins}
use Rattle.ripso_border_run.specs.declared.task.Task.{Task}
use Rattle.ripso_border_run.specs.Outcome.{refused, ByInput, ByCapture}
use Rattle.ripso_border_run.specs.Says.{border_says, capture_stages}
use Rattle.ripso_border_run.specs.inside.Course.{IsPlanned, IsUnmoved, with_left, IsCrossing, none_counted}
use Rattle.ripso_border_run.proofs.Stopping.{asked, keeps_capture}
use Rattle.ripso_border_run.proofs.Early.{early_unread, early_short, early_event}

some_of : (o : Option (List ℕ)) → IsSome o → (held : List ℕ) × (o ≡ Some held)
some_of None there = absurd (cc)
some_of (Some held) there = (held, refl)

module _ (task : Task) (plan : DoiPlan) (before start mid after : Outside) (planned : IsPlanned task plan before) (same : IsUnmoved before.folder start.folder) (stream : start.stream ≡ before.stream) where
  -- ---- the input's beginning

  module _ {T : Type 0} (result : Result T FrameStop) (read : OnlyReads {T = T} stop.ReadFault result task.input start.folder mid.folder) where
    told_mid : mid.folder.tells ≡ before.folder.tells
    told_mid = read.told ∙ same.told

    kept_mid : IsTrue before.folder.tells → SameHeld before.folder.held mid.folder.held
    kept_mid told name = read.kept (subst IsTrue (sym same.told) told) name ∙ same.kept told name

    creates_mid : SameCounts before.folder.creates mid.folder.creates
    creates_mid name = read.creates name ∙ same.creates name

    appends_mid : SameCounts before.folder.appends mid.folder.appends
    appends_mid name = read.appends name ∙ same.appends name

    reads_mid : (IsErrOf result stop.ReadFault → ⊥) → SameCounts before.folder.reads mid.folder.reads
    reads_mid other name = read.reads.still other name ∙ same.reads name

    -- it couldn't be read
    pub ends_unread_input : IsErrOf result stop.ReadFault → mid.stream ≡ start.stream → CallEnds border_says (asked task) before mid 3 []
    ends_unread_input failed still =
        early_unread task before mid (capture_stages task) (keeps_capture task before mid planned.begun told_mid) kept_mid appends_mid
        (inl (record { name = task.input; in_hand = refl; rose = subst (λ (k : ℕ). Rose k (mid.folder.reads task.input)) (same.reads task.input) (read.reads.cause failed) })) (still ∙ stream)

    pub ends_short_input : (IsErrOf result stop.ReadFault → ⊥) → mid.stream ≡ start.stream → CallEnds border_says (asked task) before mid 6 []
    ends_short_input other still = early_short task before mid (capture_stages task) (keeps_capture task before mid planned.begun told_mid) kept_mid appends_mid (reads_mid other) creates_mid (still ∙ stream)

    held_input : IsTrue before.folder.tells → start.folder.held task.input ≡ before.folder.held task.input
    held_input told = same.kept told task.input

    -- or is no capture's
    pub ends_no_capture : (broken : CaptureFault) (status : Status) → (IsErrOf result stop.ReadFault → ⊥)
        → (IsTrue start.folder.tells → capture_header (octets_of (start.folder.held task.input)) ≡ Err broken) → (IsTrue start.folder.tells → IsSome (start.folder.held task.input))
        → Printed [] (capture_line 1 (fault.Pcap broken)) WrongCapture status start.stream mid.stream → CallEnds border_says (asked task) before mid (status_number status) []
    ends_no_capture broken status other answer present printed =
        early_event task before mid (capture_stages task) (keeps_capture task before mid planned.begun told_mid) kept_mid appends_mid WrongCapture status (capture_line 1 (fault.Pcap broken)) (inr (inr (inl refl)))
        (λ e. omega (arith, e), λ e. omega (arith, e), λ e. omega (arith, e)) (λ e. omega (arith, e)) (λ e. omega (arith, e))
        (λ told.
        let now_told = subst IsTrue (sym same.told) told in
        let held = some_of (start.folder.held task.input) (present now_told) in
        let holds : before.folder.held task.input ≡ Some held.0 = sym (held_input told) ∙ held.1 in
        let header : capture_header held.0 ≡ Err broken = ap (λ (o : Option (List ℕ)). capture_header (octets_of o)) (sym held.1) ∙ answer now_told in
        let is : by_pcap (capture_of held.0) ≡ Err (fault.Pcap broken) = ap (λ (h : Result CaptureHeader CaptureFault). by_pcap (capture_by held.0 h)) header in
        let outcome = refused 5 (capture_line 1 (fault.Pcap broken)) in
        planned.leads told outcome
        (subst (λ (o : Option (List ℕ)). ByInput task plan o outcome) (sym holds)
        (subst (λ (r : Result CaptureFile FileFault). ByCapture task plan r outcome) (sym is) refl)))
        (reads_mid other) creates_mid (subst (λ (s : SinkState). Printed [] (capture_line 1 (fault.Pcap broken)) WrongCapture status s mid.stream) stream printed)

  -- ---- the output's making

  module _ (reader : Reader) (read : OnlyReads {T = Reader} stop.ReadFault (Ok reader) task.input start.folder mid.folder) where
    module _ {T : Type 0} (why : IoFault) (made : OnlyCreates {T = T} Failed (Err why) task.output mid.folder after.folder) (kept : IsTrue mid.folder.tells → SameHeld mid.folder.held after.folder.held) (still : after.stream ≡ start.stream) where
      told_after : after.folder.tells ≡ before.folder.tells
      told_after = made.told ∙ told_mid (Ok reader) read

      kept_after : IsTrue before.folder.tells → SameHeld before.folder.held after.folder.held
      kept_after told name = kept (subst IsTrue (sym (told_mid (Ok reader) read)) told) name ∙ kept_mid (Ok reader) read told name

      appends_after : SameCounts before.folder.appends after.folder.appends
      appends_after name = made.appends name ∙ appends_mid (Ok reader) read name

      pub ends_unmade : why ≡ Failed → CallEnds border_says (asked task) before after 3 []
      ends_unmade failed =
          early_unread task before after (capture_stages task) (keeps_capture task before after planned.begun told_after) kept_after appends_after
          (inr (record { name = task.output; in_hand = refl; rose = subst (λ (k : ℕ). Rose k (after.folder.creates task.output)) (creates_mid (Ok reader) read task.output) (made.creates.cause (ap Err failed)) }))
          (still ∙ stream)

      pub ends_short_output : (why ≡ Failed → ⊥) → CallEnds border_says (asked task) before after 6 []
      ends_short_output other =
          early_short task before after (capture_stages task) (keeps_capture task before after planned.begun told_after) kept_after appends_after (λ name. made.reads name ∙ reads_mid (Ok reader) read (λ e. absurd cc) name)
          (λ name. made.creates.still (λ e. other (let is : why ≡ Failed = cc in is)) name ∙ creates_mid (Ok reader) read name) (still ∙ stream)

    -- ---- the first frame

    pub starts : {T : Type 0} (x : T) (waits : List ℕ) (nanos : Bool) → nanos ≡ reader.header.nanos → waits ≡ capture_head_octets nanos → reader.place ≡ 24
        → (IsTrue start.folder.tells → capture_header (octets_of (start.folder.held task.input)) ≡ Ok reader.header) → (IsTrue start.folder.tells → IsSome (start.folder.held task.input))
        → (IsTrue mid.folder.tells → NowHolds task.output [] mid.folder.held after.folder.held) → OnlyCreates {T = T} Failed (Ok x) task.output mid.folder after.folder → after.stream ≡ start.stream
        → IsCrossing task plan before after reader [] waits [] none_counted
    starts x waits nanos fraction head place answer present made creates still = record {
      planned = planned;
      told = creates.told ∙ told_mid (Ok reader) read;
      reads = λ name. creates.reads name ∙ reads_mid (Ok reader) read (λ e. absurd cc) name;
      creates = λ name. creates.creates.ok name ∙ creates_mid (Ok reader) read name;
      appends = λ name. creates.appends name ∙ appends_mid (Ok reader) read name;
      others = λ told name apart. (made (subst IsTrue (sym (told_mid (Ok reader) read)) told)).elsewhere name apart ∙ kept_mid (Ok reader) read told name;
      done = [];
      made = [];
      are = tt;
      way = subst (λ (s : SinkState). IsUnderWay [] [] before.stream s) (sym (still ∙ stream)) (a_report_begins before.stream);
      packets = refl;
      passed = refl;
      denied = refl;
      few = omega arith;
      amid = λ told. (
          let now_told = subst IsTrue (sym same.told) told in
          let held = some_of (start.folder.held task.input) (present now_told) in
          let header : capture_header held.0 ≡ Ok reader.header = ap (λ (o : Option (List ℕ)). capture_header (octets_of o)) (sym held.1) ∙ answer now_told in
          record {
            octets = held.0;
            input = sym (held_input (Ok reader) read told) ∙ held.1;
            all = ap (λ (h : Result CaptureHeader CaptureFault). by_pcap (capture_by held.0 h)) header ∙ ap (λ (p : ℕ). by_place held.0 p) (sym place);
            sent = [];
            here = (made (subst IsTrue (sym (told_mid (Ok reader) read)) told)).here;
            whole = head ∙ ap capture_head_octets fraction ∙ sym (append-nil (capture_head_octets reader.header.nanos));
          });
    }
      where
        by_place : List ℕ → ℕ → Result CaptureFile FileFault
        by_place octets p = Ok (with_left reader [] (left_of (reads.Pcap (record reader { place = p })) octets))
