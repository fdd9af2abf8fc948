-- How an audit ends.
use Rattle.std.proofs.Common.{◌≡◌, ◌≢◌, ◌⊎◌, ℕ, Bool, true, false, List, [], ◌∷◌, length, Option, Some, None, Result, Ok, Err, refl, sym, ap, subst, ◌∙◌, arith, inl, inr}
use Rattle.std.specs.Prelude.{IsTrue, IfErr, MatchBool, Contains, nat_lt}
use Rattle.std.proofs.lemmas.List.{append-nil}
use Rattle.net_io.specs.Faults.{Rose, SameCounts}
use Rattle.net_io.specs.Sink.{SinkState}
use Rattle.label_commands.specs.declared.script.Script.{Script}
use Rattle.label_commands.specs.declared.stop.ScriptStop.{ScriptStop}
use Rattle.call_report.specs.declared.status.Status.{Status}
use Rattle.call_report.specs.declared.status.Status.TheVariants.{Done, NoForm, WrongScript, ReadFault, WriteFault, WrongCapture, OutOfMemory, Limit}
use Rattle.call_report.specs.CallEnds.{CallEnds, HasBegun}
use Rattle.call_report.specs.Event.{Event, packets_limit}
use Rattle.call_report.specs.Lines.Capture.{capture_line}
use Rattle.call_report.specs.Lines.Fixed.{packets_limit_line}
use Rattle.call_report.specs.Lines.Script.{script_stop_line}
use Rattle.call_report.specs.Outside.{Outside, IsOnlyRead}
use Rattle.call_report.specs.Printing.{Printed}
use Rattle.call_report.specs.Report.{Folder, Report, late_report}
use Rattle.call_report.specs.Says.{Says}
use Rattle.call_report.specs.Stages.{Stage, reading_stage}
use Rattle.call_report.specs.Status.{status_number}
use Rattle.call_report.proofs.Law.{Knows, IsNumberOf, IsOfForm, asks, makes_nothing, knows_reading, ends_printed, ends_printed_as, ends_unread, ends_unprinted}
use Rattle.call_report.specs.script_input.Ends.{HasScript}
use Rattle.call_report.specs.script_input.ScriptFile.{script_read, ByAnswer, ByScript, script_stop_status}
use Rattle.call_report.proofs.script_input.Law.{ReadsScript, in_file, content_of, content_holds, content_told}
use Rattle.label_audit.specs.Reads.{OnlyReadsAmong}
use Rattle.label_audit.specs.declared.audited.Audited.{Audited}
use Rattle.label_audit.specs.declared.audited.Audited.TheVariants.{Yes, NoLine}
use Rattle.netlabel_audit.specs.declared.asked.Audit.{Audit}
use Rattle.netlabel_audit.specs.declared.stop.AuditStop.{AuditStop}
use Rattle.netlabel_audit.specs.declared.stop.AuditStop.TheVariants as stop
use Rattle.netlabel_audit.specs.Inputs.{InputsEnd, one_absent, ended_by, all_whole, inputs_end}
use Rattle.netlabel_audit.specs.Lines.{yes_line, no_line, report_limit_line}
use Rattle.netlabel_audit.specs.Outcome.{AuditOutcome, decided_by, nothing_due, answer_told, ByLines, all_good, first_bad, ByInputs, ByReport, IsAuditOutcome, report_limit}
use Rattle.netlabel_audit.specs.Says.{audit_says, AuditMay, audit_files}
use Rattle.netlabel_audit.specs.inside.Finding.{event_of, IsFound, number_as, IsToldStop, IsToldVerdict, IsTold}
use Rattle.netlabel_audit.proofs.Found.{held_same}

-- ---- nothing may stand in front of what is printed

abbrev Quiet : AuditOutcome → Type 0
Quiet outcome = outcome.report.pauses ≡ [] ∷ []

lines_quiet : (script : Script) (workers : ℕ) (held : Folder) (octets : List ℕ) (outcome : AuditOutcome) → ByLines script workers held octets outcome → Quiet outcome
lines_quiet script workers held octets outcome (all_good is) = refl
lines_quiet script workers held octets outcome (first_bad line is) = refl

inputs_quiet : (script : Script) (workers : ℕ) (held : Folder) (octets : List ℕ) (end : InputsEnd) (outcome : AuditOutcome) → ByInputs script workers held octets end outcome → Quiet outcome
inputs_quiet script workers held octets one_absent outcome is = ap (λ (o : AuditOutcome). o.report.pauses) is
inputs_quiet script workers held octets (ended_by event) outcome is = ap (λ (o : AuditOutcome). o.report.pauses) is
inputs_quiet script workers held octets all_whole outcome is = lines_quiet script workers held octets outcome is

length_quiet : (long : Bool) (script : Script) (workers : ℕ) (held : Folder) (octets : List ℕ) (outcome : AuditOutcome)
    → MatchBool long (outcome ≡ decided_by 7 report_limit_line) (ByInputs script workers held octets (inputs_end held 1 packets_limit script.flows) outcome) → Quiet outcome
length_quiet true script workers held octets outcome is = ap (λ (o : AuditOutcome). o.report.pauses) is
length_quiet false script workers held octets outcome is = inputs_quiet script workers held octets (inputs_end held 1 packets_limit script.flows) outcome is

report_quiet : (script : Script) (workers : ℕ) (held : Folder) (report : Option (List ℕ)) (outcome : AuditOutcome) → ByReport script workers held report outcome → Quiet outcome
report_quiet script workers held None outcome is = ap (λ (o : AuditOutcome). o.report.pauses) is
report_quiet script workers held (Some octets) outcome is = length_quiet (nat_lt report_limit (length octets)) script workers held octets outcome is

-- a number that is one of two is no other
neither : (number a b n : ℕ) → (number ≡ a) ⊎ (number ≡ b) → n ≢ a → n ≢ b → number ≢ n
neither number a b n (inl is) not_a not_b same = not_a (sym same ∙ is)
neither number a b n (inr is) not_a not_b same = not_b (sym same ∙ is)

module _ (asked : Audit) where
  answer_quiet : (held : Folder) (read : Result Script ScriptStop) (outcome : AuditOutcome)
      → ByAnswer read (λ why. outcome ≡ decided_by (script_stop_status why) (script_stop_line why)) (λ script. ByReport script asked.workers held (held asked.report) outcome) → Quiet outcome
  answer_quiet held (Err why) outcome is = ap (λ (o : AuditOutcome). o.report.pauses) is
  answer_quiet held (Ok script) outcome is = report_quiet script asked.workers held (held asked.report) outcome is

  script_quiet : (held : Folder) (text : Option (List ℕ)) (outcome : AuditOutcome)
      → ByScript asked.script text (outcome ≡ nothing_due) (λ why. outcome ≡ decided_by (script_stop_status why) (script_stop_line why)) (λ script. ByReport script asked.workers held (held asked.report) outcome) → Quiet outcome
  script_quiet held None outcome is = ap (λ (o : AuditOutcome). o.report.pauses) is
  script_quiet held (Some text) outcome is = answer_quiet held (script_read asked.script text) outcome is

  abbrev says : Says
  says = audit_says (Some asked)

  nothing_in_front : (held : Folder) (report : Report) → says.report held [] report → Contains report.pauses []
  nothing_in_front held report has =
      subst (λ (pauses : List (List ℕ)). Contains pauses [])
      (sym (sym (ap (λ (r : Report). r.pauses) has.2) ∙ script_quiet held (held asked.script) has.0 has.1)) (0, omega arith, refl)

  -- ---- the script

  -- by what is read of its file
  outcome_of_script : (held : Folder) (text : List ℕ) (read : Result Script ScriptStop) (outcome : AuditOutcome) → held asked.script ≡ Some text → script_read asked.script text ≡ read
      → ByAnswer read (λ why. outcome ≡ decided_by (script_stop_status why) (script_stop_line why)) (λ script. ByReport script asked.workers held (held asked.report) outcome)
      → IsAuditOutcome asked held outcome
  outcome_of_script held text read outcome holds is has =
      in_file asked.script (held asked.script) text read holds is (outcome ≡ nothing_due)
      (λ why. outcome ≡ decided_by (script_stop_status why) (script_stop_line why)) (λ script. ByReport script asked.workers held (held asked.report) outcome) has

  pub audit_reads : ReadsScript says asked.script
  audit_reads = record {
    depends = tt;
    knows = λ before after reads told. knows_reading says (reading_stage asked.script ∷ []) before after (refl, inl refl) refl refl tt tt reads told;
    refused = λ held text why holds is.
        let outcome = decided_by (script_stop_status why) (script_stop_line why) in
        let due = outcome_of_script held text (Err why) outcome holds is refl in
        record { status = (outcome, due, refl); report = (outcome, due, refl); whole = refl };
    may = λ text why is. (text, subst (λ (r : Result Script ScriptStop). AuditMay r (script_stop_status why)) (sym is) refl);
    pauses = λ held report has. nothing_in_front held report has;
  }

  -- ---- behind it

  module _ (before mid after : Outside) (script : Script) (has : HasScript asked.script before mid script) where
    abbrev ended : ℕ → Type 0
    ended number = CallEnds audit_says (Some asked) before after number []

    abbrev in_hand : List ℕ → List Stage
    in_hand file = reading_stage asked.script ∷ reading_stage file ∷ []

    module _ (found : Result Audited AuditStop) (reads : OnlyReadsAmong stop.Unread found (audit_files asked script) mid.folder after.folder) where
      told_mid : IsTrue before.folder.tells → IsTrue mid.folder.tells
      told_mid told = subst IsTrue (sym has.reads.told) told

      only : IsOnlyRead before.folder after.folder
      only = record {
        told = reads.told ∙ has.reads.told;
        kept = λ told name. reads.kept (told_mid told) name ∙ has.reads.kept told name;
        creates = λ name. reads.creates name ∙ has.reads.creates name;
        appends = λ name. reads.appends name ∙ has.reads.appends name;
      }

      counts : SameCounts mid.folder.reads after.folder.reads → SameCounts before.folder.reads after.folder.reads
      counts same name = same name ∙ has.counts name

      -- this file is in hand
      begun : (file : List ℕ) → Contains (audit_files asked script) file → HasBegun says before.folder [] (in_hand file)
      begun file among = record {
        content = content_of before.folder.tells before.folder.held has.text;
        told = content_told before.folder.tells before.folder.held has.text;
        are = (
          refl,
          inr (
            file,
            in_file asked.script (content_of before.folder.tells before.folder.held has.text asked.script) has.text (Ok script)
                (content_holds before.folder.tells before.folder.held has.text asked.script has.holds) has.is ⊥ (λ why. ⊥) (λ s. Contains (audit_files asked s) file) among,
            refl,
          ),
        );
      }

      knows : (file : List ℕ) → Contains (audit_files asked script) file → after.stream.tells ≡ before.stream.tells → Knows says before after (in_hand file)
      knows file among told_stream = record {
        keeps = record {
          begun = begun file among;
          lawful = λ _. refl;
          access = λ _. tt;
          withheld = λ _. tt;
          still = λ none. (only.creates, only.appends);
          folder_told = only.told;
          stream_told = told_stream;
        };
        made = λ told. makes_nothing says before after (in_hand file) refl (only.kept told);
        creates = only.creates;
        appends = only.appends;
      }

      report_among : Contains (audit_files asked script) asked.report
      report_among = (0, omega arith, refl)

      -- what is due behind the script, where the folder tells what it holds
      is_outcome : (outcome : AuditOutcome) → (IsTrue mid.folder.tells → ByReport script asked.workers mid.folder.held (mid.folder.held asked.report) outcome)
          → IsTrue before.folder.tells → IsAuditOutcome asked before.folder.held outcome
      is_outcome outcome due told =
          let same : mid.folder.held ≡ before.folder.held = held_same before.folder.held mid.folder.held (has.reads.kept told) in
          outcome_of_script before.folder.held has.text (Ok script) outcome (has.holds told) has.is
          (subst (λ (held : Folder). ByReport script asked.workers held (held asked.report) outcome) same (due (told_mid told)))

      form : (number : ℕ) (body : List ℕ) → number ≢ 1 → IsOfForm (Some asked) number body
      form number body other = asks (Some asked) number body (λ e. absurd cc) other

      -- ---- the event that decides

      by_event : (due status : Status) (line : List ℕ) → (status_number due ≡ 5) ⊎ (status_number due ≡ 7)
          → (IsTrue mid.folder.tells → ByReport script asked.workers mid.folder.held (mid.folder.held asked.report) (decided_by (status_number due) line))
          → AuditMay (Ok script) (status_number due) → SameCounts mid.folder.reads after.folder.reads → Printed [] line due status mid.stream after.stream → ended (status_number status)
      by_event due status line number is may same printed =
          let outcome = decided_by (status_number due) line in
          let printed_here = subst (λ (s : SinkState). Printed [] line due status s after.stream) has.stream printed in
          let other : (n : ℕ) → n ≢ 5 → n ≢ 7 → status_number due ≢ n = λ n. neither (status_number due) 5 7 n number in
          ends_printed audit_says (Some asked) before after (in_hand asked.report) (knows asked.report report_among printed_here.told) due [] line
          (form (status_number due) [] (other 1 (λ e. omega (arith, e)) (λ e. omega (arith, e))))
          (record {
            event = (other 3 (λ e. omega (arith, e)) (λ e. omega (arith, e)), other 4 (λ e. omega (arith, e)) (λ e. omega (arith, e)), other 6 (λ e. omega (arith, e)) (λ e. omega (arith, e)));
            has = λ told. (outcome, is_outcome outcome is told, refl);
            may = (has.text, subst (λ (r : Result Script ScriptStop). AuditMay r (status_number due)) (sym has.is) may);
            parts = λ known. record { report = late_report [] line; has = (outcome, is_outcome outcome is (known tt), refl); body = refl; last = refl };
            last = λ e. elim e [
              | inl zero ↦ absurd (other 0 (λ e. omega (arith, e)) (λ e. omega (arith, e)) zero)
              | inr eight ↦ absurd (other 8 (λ e. omega (arith, e)) (λ e. omega (arith, e)) eight)
            ];
            whole = λ told. refl;
          })
          status (counts same) printed_here

      -- ---- the lines decide

      by_lines : (status : Status) (number answer : ℕ) (line : List ℕ) → (number ≡ 0) ⊎ (number ≡ 8) → IsNumberOf Done status number answer
          → (IsTrue mid.folder.tells → ByReport script asked.workers mid.folder.held (mid.folder.held asked.report) (answer_told number line))
          → SameCounts mid.folder.reads after.folder.reads → Printed line [] Done status mid.stream after.stream → ended answer
      by_lines status number answer line which numbered is same printed =
          let outcome = answer_told number line in
          let printed_here = subst (λ (s : SinkState). Printed line [] Done status s after.stream) has.stream printed in
          let other : (n : ℕ) → n ≢ 0 → n ≢ 8 → number ≢ n = λ n. neither number 0 8 n which in
          ends_printed_as audit_says (Some asked) before after (in_hand asked.report) (knows asked.report report_among printed_here.told) number line []
          (form number line (other 1 (λ e. omega (arith, e)) (λ e. omega (arith, e))))
          (record {
            event = (other 3 (λ e. omega (arith, e)) (λ e. omega (arith, e)), other 4 (λ e. omega (arith, e)) (λ e. omega (arith, e)), other 6 (λ e. omega (arith, e)) (λ e. omega (arith, e)));
            has = λ told. (outcome, is_outcome outcome is told, refl);
            may = (has.text, subst (λ (r : Result Script ScriptStop). AuditMay r number) (sym has.is) (elim which [ inl z ↦ inl z | inr g ↦ inr (inr (inl g)) ]));
            parts = λ known. record { report = late_report line []; has = (outcome, is_outcome outcome is (known tt), refl); body = refl; last = refl };
            last = λ e. refl;
            whole = λ told. refl;
          })
          Done status answer numbered (counts same) printed_here

      -- ---- something was refused

      by_read : (status : Status) → status ≡ ReadFault → (file : List ℕ) → Contains (audit_files asked script) file → Rose (mid.folder.reads file) (after.folder.reads file)
          → after.stream ≡ mid.stream → ended (status_number status)
      by_read status is file among rose same =
          let still : after.stream ≡ before.stream = same ∙ has.stream in
          subst ended (sym (ap status_number is))
          (ends_unread audit_says (Some asked) before after (in_hand file) (knows file among (ap (λ (s : SinkState). s.tells) still)) [] (λ e. absurd cc)
          (record { name = file; in_hand = refl; rose = subst (λ (n : ℕ). Rose n (after.folder.reads file)) (has.counts file) rose })
          (ap (λ (s : SinkState). s.faults) still)
          (λ out. ap (λ (s : SinkState). s.written) still ∙ sym (append-nil before.stream.written))
          (λ known. inl refl)
          (λ known report reported. nothing_in_front before.folder.held report reported)
          (inr refl))

      by_memory : (status : Status) → status ≡ OutOfMemory → SameCounts mid.folder.reads after.folder.reads → after.stream ≡ mid.stream → ended (status_number status)
      by_memory status is same still =
          let stays : after.stream ≡ before.stream = still ∙ has.stream in
          subst ended (sym (ap status_number is))
          (ends_unprinted audit_says (Some asked) before after (in_hand asked.report) (knows asked.report report_among (ap (λ (s : SinkState). s.tells) stays)) (counts same) stays)

    -- ---- what was found was told

    -- the number of a call that was to end with `Done`
    numbers : (done : ℕ) (status : Status) → IsNumberOf Done status done (number_as done status)
    numbers done Done = record { event = λ e. refl; write = λ e. absurd cc; memory = λ e. absurd cc }
    numbers done NoForm = record { event = λ e. absurd cc; write = λ e. absurd cc; memory = λ e. absurd cc }
    numbers done WrongScript = record { event = λ e. absurd cc; write = λ e. absurd cc; memory = λ e. absurd cc }
    numbers done ReadFault = record { event = λ e. absurd cc; write = λ e. absurd cc; memory = λ e. absurd cc }
    numbers done WriteFault = record { event = λ e. absurd cc; write = λ e. refl; memory = λ e. absurd cc }
    numbers done WrongCapture = record { event = λ e. absurd cc; write = λ e. absurd cc; memory = λ e. absurd cc }
    numbers done OutOfMemory = record { event = λ e. absurd cc; write = λ e. absurd cc; memory = λ e. refl }
    numbers done Limit = record { event = λ e. absurd cc; write = λ e. absurd cc; memory = λ e. absurd cc }

    abbrev Found : Result Audited AuditStop → Type 0
    Found found = IsTrue mid.folder.tells → IsFound asked script mid.folder.held found

    by_verdict : (verdict : Audited) (number : ℕ) → OnlyReadsAmong stop.Unread (Ok verdict) (audit_files asked script) mid.folder after.folder → Found (Ok verdict)
        → IsToldVerdict verdict mid.stream after.stream number → ended number
    by_verdict Yes number reads is told =
        subst ended (sym told.1) (by_lines (Ok Yes) reads told.0 0 (number_as 0 told.0) yes_line (inl refl) (numbers 0 told.0) is reads.reads.ok told.2)
    by_verdict (NoLine line) number reads is told =
        subst ended (sym told.1) (by_lines (Ok (NoLine line)) reads told.0 8 (number_as 8 told.0) (no_line line) (inr refl) (numbers 8 told.0) is reads.reads.ok told.2)

    by_stop : (why : AuditStop) (status : Status) → OnlyReadsAmong {T = Audited} stop.Unread (Err why) (audit_files asked script) mid.folder after.folder → Found (Err why)
        → ((event : Event) → event_of why ≡ Some event → AuditMay (Ok script) event.status) → IsToldStop why mid.stream after.stream status → ended (status_number status)
    by_stop stop.LongReport status reads is may told =
        by_event (Err stop.LongReport) reads Limit status report_limit_line (inr refl) (λ tells. is tells _ refl) (may _ refl) (reads.reads.still (λ e. absurd cc)) told
    by_stop (stop.Broken flow fault) status reads is may told =
        by_event (Err (stop.Broken flow fault)) reads WrongCapture status (capture_line flow fault) (inl refl) (λ tells. is tells _ refl) (may _ refl) (reads.reads.still (λ e. absurd cc)) told
    by_stop stop.TooMany status reads is may told =
        by_event (Err stop.TooMany) reads Limit status packets_limit_line (inr refl) (λ tells. is tells _ refl) (may _ refl) (reads.reads.still (λ e. absurd cc)) told
    by_stop stop.Unread status reads is may told =
        let failed = reads.reads.cause refl in
        by_read (Err stop.Unread) reads status told.0 failed.0 failed.1 failed.2 told.1
    by_stop stop.OutOfMemory status reads is may told =
        by_memory (Err stop.OutOfMemory) reads status told.0 (reads.reads.still (λ e. absurd cc)) told.1

    pub ends_told : (found : Result Audited AuditStop) (number : ℕ) → OnlyReadsAmong stop.Unread found (audit_files asked script) mid.folder after.folder → Found found
        → IfErr found (λ why. (event : Event) → event_of why ≡ Some event → AuditMay (Ok script) event.status) → IsTold found mid.stream after.stream number → ended number
    ends_told (Ok verdict) number reads is may told = by_verdict verdict number reads is told
    ends_told (Err why) number reads is may told = subst ended (sym told.1) (by_stop why told.0 reads is may told.2)
