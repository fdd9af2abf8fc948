-- How a call ends before its first frame: nothing was printed but the line of an event, and no file has changed.
use Rattle.std.proofs.Common.{◌≡◌, ◌≢◌, ◌⊎◌, ℕ, Bool, true, false, List, [], Option, Some, None, Result, Ok, Err, refl, sym, ap, subst, ◌∙◌, arith, inl, inr}
use Rattle.std.specs.Prelude.{IsTrue, Contains, MatchBool}
use Rattle.std.proofs.lemmas.List.{append-nil}
use Rattle.net_io.specs.Depot.{SameHeld}
use Rattle.net_io.specs.Faults.{SameCounts}
use Rattle.net_io.specs.Sink.{SinkState, WritesPrefix}
use Rattle.pcap_frames.specs.Capture.{capture_of}
use Rattle.doi_table.specs.declared.plan.DoiPlan.{DoiPlan}
use Rattle.captures.specs.declared.fault.FileFault.{FileFault}
use Rattle.captures.specs.CaptureFile.{CaptureFile, by_pcap}
use Rattle.label_commands.specs.declared.script.Script.{Script}
use Rattle.label_commands.specs.declared.stop.ScriptStop.{ScriptStop}
use Rattle.call_report.specs.declared.status.Status.{Status}
use Rattle.call_report.specs.declared.status.Status.TheVariants.{OutOfMemory}
use Rattle.call_report.specs.CallEnds.{CallEnds, IsWritten}
use Rattle.call_report.specs.Event.{Event, packets_limit, capture_event}
use Rattle.call_report.specs.Lines.Capture.{capture_line}
use Rattle.call_report.specs.Lines.Script.{script_stop_line}
use Rattle.call_report.specs.Outside.{Outside, ReadRose, CreateRose}
use Rattle.call_report.specs.Printing.{Printed}
use Rattle.call_report.specs.Report.{Folder, Report, late_report}
use Rattle.call_report.specs.Stages.{Stage}
use Rattle.call_report.specs.Status.{status_number}
use Rattle.call_report.proofs.Law.{HasLeft, Keeps, Begins, asks, none_when_done, ends_printed, makes_nothing}
use Rattle.call_report.specs.script_input.ScriptFile.{script_read, ByAnswer, ByScript, script_stop_status}
use Rattle.ripso_border_run.specs.declared.task.Task.{Task}
use Rattle.ripso_border_run.specs.Definition.{border_definition}
use Rattle.ripso_border_run.specs.Frames.{border_report}
use Rattle.ripso_border_run.specs.Lines.{Made, name_twice_line, no_doi_line}
use Rattle.ripso_border_run.specs.Outcome.{Outcome, refused, absent, ByInput, ByCapture, ByDefinition, ByTask, IsOutcome, is_named_twice}
use Rattle.ripso_border_run.specs.Says.{border_says, IsEnding}
use Rattle.ripso_border_run.proofs.Made.{starts_contain}
use Rattle.ripso_border_run.proofs.Leading.{some_outcome}
use Rattle.ripso_border_run.proofs.Stopping as stopping
use Rattle.ripso_border_run.proofs.Stopping.{asked}

-- ---- there is an outcome, and nothing may stand in front of its first line

module _ (task : Task) where
  pauses_of : (made : List Made) (event : Option Event) → Contains (border_report made event).pauses []
  pauses_of made None = starts_contain [] made
  pauses_of made (Some event) = starts_contain [] made

  late_pauses : (body last : List ℕ) → Contains (late_report body last).pauses []
  late_pauses body last = (0, omega arith, refl)

  abbrev Quiet : Outcome → Type 0
  Quiet outcome = Contains outcome.report.pauses []

  capture_quiet : (plan : DoiPlan) (read : Result CaptureFile FileFault) (outcome : Outcome) → ByCapture task plan read outcome → Quiet outcome
  capture_quiet plan (Err fault) outcome is = subst Quiet (sym is) (late_pauses [] (capture_line 1 fault))
  capture_quiet plan (Ok file) outcome is = subst Quiet (sym is.2) (pauses_of is.0 (capture_event 1 packets_limit file))

  input_quiet : (plan : DoiPlan) (held : Option (List ℕ)) (outcome : Outcome) → ByInput task plan held outcome → Quiet outcome
  input_quiet plan None outcome is = subst Quiet (sym is) (late_pauses [] [])
  input_quiet plan (Some octets) outcome is = capture_quiet plan (by_pcap (capture_of octets)) outcome is

  definition_quiet : (input : Option (List ℕ)) (plan : Option DoiPlan) (outcome : Outcome) → ByDefinition task input plan outcome → Quiet outcome
  definition_quiet input None outcome is = subst Quiet (sym is) (late_pauses [] no_doi_line)
  definition_quiet input (Some plan) outcome is = input_quiet plan input outcome is

  task_quiet : (twice : Bool) (input : Option (List ℕ)) (plan : Option DoiPlan) (number : ℕ) (line : List ℕ) (outcome : Outcome) → MatchBool twice (outcome ≡ refused number line) (ByDefinition task input plan outcome) → Quiet outcome
  task_quiet true input plan number line outcome is = subst Quiet (sym is) (late_pauses [] line)
  task_quiet false input plan number line outcome is = definition_quiet input plan outcome is

  answer_quiet : (input : Option (List ℕ)) (read : Result Script ScriptStop) (outcome : Outcome)
      → ByAnswer read (λ why. outcome ≡ refused (script_stop_status why) (script_stop_line why)) (λ script. ByTask task input script outcome) → Quiet outcome
  answer_quiet input (Err why) outcome is = subst Quiet (sym is) (late_pauses [] (script_stop_line why))
  answer_quiet input (Ok script) outcome is = task_quiet (is_named_twice task) input (border_definition script task.doi) 2 name_twice_line outcome is

  script_quiet : (held input : Option (List ℕ)) (outcome : Outcome)
      → ByScript task.script held (outcome ≡ absent) (λ why. outcome ≡ refused (script_stop_status why) (script_stop_line why)) (λ script. ByTask task input script outcome) → Quiet outcome
  script_quiet None input outcome is = subst Quiet (sym is) (late_pauses [] [])
  script_quiet (Some text) input outcome is = answer_quiet input (script_read task.script text) outcome is

  outcome_quiet : (held : Folder) (outcome : Outcome) → IsOutcome task held outcome → Quiet outcome
  outcome_quiet held outcome is = script_quiet (held task.script) (held task.input) outcome is

  by_definition : (input : Option (List ℕ)) (plan : Option DoiPlan) → (outcome : Outcome) × ByDefinition task input plan outcome
  by_definition input None = (refused 2 no_doi_line, refl)
  by_definition input (Some plan) = some_outcome task plan input

  by_twice : (twice : Bool) (input : Option (List ℕ)) (plan : Option DoiPlan) (number : ℕ) (line : List ℕ) → (outcome : Outcome) × MatchBool twice (outcome ≡ refused number line) (ByDefinition task input plan outcome)
  by_twice true input plan number line = (refused number line, refl)
  by_twice false input plan number line = by_definition input plan

  by_answer : (input : Option (List ℕ)) (read : Result Script ScriptStop)
      → (outcome : Outcome) × ByAnswer read (λ why. outcome ≡ refused (script_stop_status why) (script_stop_line why)) (λ script. ByTask task input script outcome)
  by_answer input (Err why) = (refused (script_stop_status why) (script_stop_line why), refl)
  by_answer input (Ok script) = by_twice (is_named_twice task) input (border_definition script task.doi) 2 name_twice_line

  by_script : (held input : Option (List ℕ))
      → (outcome : Outcome) × ByScript task.script held (outcome ≡ absent) (λ why. outcome ≡ refused (script_stop_status why) (script_stop_line why)) (λ script. ByTask task input script outcome)
  by_script None input = (absent, refl)
  by_script (Some text) input = by_answer input (script_read task.script text)

  any_outcome : (held : Folder) → (outcome : Outcome) × IsOutcome task held outcome
  any_outcome held = by_script (held task.script) (held task.input)

-- ---- an early end

module _ (task : Task) (before after : Outside) (stages : List Stage) (keeps : after.stream.tells ≡ before.stream.tells → Keeps (border_says (asked task)) before after stages)
    (kept : IsTrue before.folder.tells → SameHeld before.folder.held after.folder.held) (appends : SameCounts before.folder.appends after.folder.appends) where
  untouched : IsTrue before.folder.tells → HasLeft (border_says (asked task)) before after stages
  untouched tells =
      let any = any_outcome task before.folder.held in
      record { outputs = any.0.outputs; are = (any.0, any.1, refl); begun = λ k d within. inl (kept tells _); others = λ name none. kept tells name; unmade = λ name none. kept tells name }

  begins_empty : IsTrue before.folder.tells → Begins (border_says (asked task)) before.folder.held []
  begins_empty tells = let any = any_outcome task before.folder.held in record { report = any.0.report; has = (any.0, any.1, refl); rest = any.0.report.body; body = refl }

  empty_pauses : IsTrue before.folder.tells → (report : Report) → (border_says (asked task)).report before.folder.held [] report → Contains report.pauses []
  empty_pauses tells report has = subst (λ (r : Report). Contains r.pauses []) has.2 (outcome_quiet task before.folder.held has.0 has.1)

  nothing_written : after.stream ≡ before.stream → IsWritten [] before after
  nothing_written same = ap (λ (s : SinkState). s.written) same ∙ sym (append-nil before.stream.written)

  -- a read has failed, or the making of the output
  pub early_unread : (ReadRose stages before after ⊎ CreateRose stages before after) → after.stream ≡ before.stream → CallEnds border_says (asked task) before after 3 []
  early_unread rose same =
      stopping.unread task before after stages (keeps (ap (λ (s : SinkState). s.tells) same)) [] begins_empty untouched appends (ap (λ (s : SinkState). s.faults) same) rose empty_pauses
      (λ out. nothing_written same) (inr refl)

  empty_prefix : IsWritten [] before after → WritesPrefix [] before.stream.written after.stream.written
  empty_prefix is = record { count = 0; within = omega arith; written = is }

  -- memory ran out
  pub early_short : SameCounts before.folder.reads after.folder.reads → SameCounts before.folder.creates after.folder.creates → after.stream ≡ before.stream → CallEnds border_says (asked task) before after 6 []
  early_short reads creates same =
      stopping.short task before after stages (keeps (ap (λ (s : SinkState). s.tells) same)) [] begins_empty untouched appends (ap (λ (s : SinkState). s.faults) same) (inl (record { reads = reads; creates = creates }))
      (λ out. empty_prefix (nothing_written same))

  -- and what tells it was printed
  pub early_quiet : (status : Status) → SameCounts before.folder.reads after.folder.reads → SameCounts before.folder.creates after.folder.creates → Printed [] [] OutOfMemory status before.stream after.stream
      → CallEnds border_says (asked task) before after (status_number status) []
  early_quiet status reads creates printed =
      let ended = λ (n : ℕ). CallEnds border_says (asked task) before after n [] in
      let short = λ (writes : after.stream.faults ≡ before.stream.faults) (prefix : IsTrue before.stream.tells → WritesPrefix [] before.stream.written after.stream.written).
      stopping.short task before after stages (keeps printed.told) [] begins_empty untouched appends writes (inl (record { reads = reads; creates = creates })) prefix in
      elim printed.how [
        | inl all ↦ subst ended (sym (ap status_number all.0)) (short all.1 (λ out. empty_prefix (all.2 out)))
        | inr rest ↦ elim rest [
          | inl memory ↦ subst ended (sym (ap status_number memory.0)) (short memory.1 memory.2)
          | inr failed ↦ elim failed [
            | inl broken ↦ absurd (omega (arith, broken.2.some))
            | inr line ↦ absurd (omega (arith, line.2))
          ]
        ]
      ]

  -- the line of an event
  pub early_event : (due status : Status) (line : List ℕ) → IsEnding (status_number due) → (status_number due ≢ 3) × (status_number due ≢ 4) × (status_number due ≢ 6) → status_number due ≢ 1 → status_number due ≢ 0
      → (IsTrue before.folder.tells → IsOutcome task before.folder.held (refused (status_number due) line))
      → SameCounts before.folder.reads after.folder.reads → SameCounts before.folder.creates after.folder.creates → Printed [] line due status before.stream after.stream
      → CallEnds border_says (asked task) before after (status_number status) []
  early_event due status line may event not_1 not_0 is reads creates printed =
      ends_printed border_says (asked task) before after stages
      (record {
        keeps = keeps printed.told;
        made = λ tells. makes_nothing (border_says (asked task)) before after stages (refused (status_number due) line, is tells, refl) (kept tells);
        creates = creates;
        appends = appends;
      })
      due [] line (asks (asked task) (status_number due) [] (λ none. absurd cc) not_1)
      (record {
        event = event;
        has = λ tells. (refused (status_number due) line, is tells, refl);
        may = may;
        parts = λ known. record { report = late_report [] line; has = (refused (status_number due) line, is (known tt), refl); body = refl; last = refl };
        last = none_when_done due line (λ zero. absurd (not_0 zero));
        whole = λ tells. refl;
      })
      status reads printed
