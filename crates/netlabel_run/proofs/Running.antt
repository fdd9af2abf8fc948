-- How `run` ends whose script was read, over plain values.
use Rattle.std.proofs.Common.{◌≡◌, ◌≢◌, ◌<◌, ℕ, zero, suc, ◌-◌, true, false, List, [], ◌∷◌, ◌++◌, length, map, take, Option, Some, None, Result, Ok, Err, refl, sym, ap, ap₂, subst, ◌∙◌, append-nil, arith, inl, inr, ◌⊎◌}
use Rattle.std.specs.Prelude.{IsTrue, IsSome, All, Contains}
use Rattle.std.specs.Option.{option_map_or}
use Rattle.std.proofs.lemmas.List.{length-map, length-take-le, length-append, take-append-le}
use Rattle.std.proofs.lemmas.List.Elements.{All-nil, All-cons}
use Rattle.label_commands.specs.declared.script.Script.{Script}
use Rattle.label_commands.specs.declared.stop.ScriptStop.{ScriptStop}
use Rattle.label_commands.specs.declared.flow_lines.flow.FlowLine.{FlowLine}
use Rattle.net_io.specs.Depot.{DepotState, SameHeld}
use Rattle.net_io.specs.Faults.{Rose, SameCounts}
use Rattle.net_io.specs.Sink.{SinkState, WritesPrefix, WritesLess}
use Rattle.call_report.specs.declared.status.Status.{Status}
use Rattle.call_report.specs.declared.status.Status.TheVariants.{Done, NoForm, WrongScript, ReadFault, WriteFault, WrongCapture, OutOfMemory, Limit}
use Rattle.call_report.specs.Status.{status_number}
use Rattle.call_report.specs.Report.{Folder, Versions, Report, report_text, late_report}
use Rattle.call_report.specs.Event.{Event, packets_limit}
use Rattle.call_report.specs.Output.{Output, IsBegun, IsMade}
use Rattle.call_report.specs.Outside.{Outside, ReadRose, CreateRose, AppendRose, NoneFailed, NoFileFailed, NoInputFailed, NoWriteFailed}
use Rattle.call_report.specs.Printing.{EndsInLine, Printed}
use Rattle.call_report.specs.Stages.{Stage, reading_stage}
use Rattle.call_report.proofs.Law.{a_whole_text_is_a_front, a_part_of_a_text_is_a_front}
use Rattle.script_run.specs.flow_run.Run.{FlowRun}
use Rattle.shared_tables.specs.Plan.{PlanState}
use Rattle.label_flow.specs.flow_access.Valid.{plan_of}
use Rattle.script_run.specs.Runs.{AreRuns, AreWholeRuns, IsLawfulRun, FlowsStatus, last_event}
use Rattle.script_run.specs.Report.{pause_text, runs_report, runs_outputs}
use Rattle.script_run.specs.Ends.{flow_in_hand, last_of, HasInputs, InputRose, OutputRose, EndsBy, IsDue, IsCauseOf, IsPrintedSo, HasRuns, HasFinished, ScriptEnds, due_body, due_line}
use Rattle.script_run.proofs.Law.{runs_are_determined, done_flows_have_status_0, events_have_their_status}
use Rattle.netlabel_run.specs.declared.command.Command.{Command}
use Rattle.netlabel_run.specs.declared.command.Command.TheVariants.{Run}
use Rattle.call_report.specs.CallEnds.{CallEnds, HasBegun, EndsWith, Prints, Leaves, IsRefusal, IsUnrefused, IsWritten, PrintsReport, StopsInBody, StopsAtAppend, FailsToWrite, FailedAfterText}
use Rattle.call_report.specs.Says.{Says}
use Rattle.call_report.specs.script_input.ScriptFile.{script_read, script_stop_status, ByAnswer, ByScript}
use Rattle.netlabel_run.specs.Run.{AreItsRuns, RunMay, flow_stage}
use Rattle.netlabel_run.specs.Commands.{netlabel_says}
use Rattle.call_report.specs.Lines.Script.{script_stop_line}
use Rattle.call_report.specs.Outside.{IsOnlyRead}
use Rattle.call_report.proofs.script_input.Law.{content_of, content_holds, content_told, ReadsScript}
use Rattle.netlabel_run.proofs.Access.{has_access, withholds}
use Rattle.call_report.proofs.Law.{front_behind, part_of_line, never_8, knows_reading}
use Rattle.netlabel_run.proofs.Runs.{runs_same, runs_front, body_begins, report_begins, done_has_no_event, done_is_whole, event_is_whole, input_of_last, output_of_last, none_makes, none_of_theirs}

-- ---- a file that holds a script

pub as_script : (file : List ℕ) (held : Option (List ℕ)) (text : List ℕ) (script : Script) → held ≡ Some text → script_read file text ≡ Ok script
    → (absent : Type 0) (refused : ScriptStop → Type 0) (read : Script → Type 0) → read script → ByScript file held absent refused read
as_script file held text script holds is absent refused read h =
    subst (λ (o : Option (List ℕ)). ByScript file o absent refused read) (sym holds)
    (subst (λ (r : Result Script ScriptStop). ByAnswer r refused read) (sym is) h)

pub from_script : (file : List ℕ) (held : Option (List ℕ)) (text : List ℕ) (script : Script) → held ≡ Some text → script_read file text ≡ Ok script
    → (absent : Type 0) (refused : ScriptStop → Type 0) (read : Script → Type 0) → ByScript file held absent refused read → read script
from_script file held text script holds is absent refused read h =
    subst (λ (r : Result Script ScriptStop). ByAnswer r refused read) is
    (subst (λ (o : Option (List ℕ)). ByScript file o absent refused read) holds h)

-- ---- numbers of statuses

of_number : ℕ → Status
of_number zero = Done
of_number (suc zero) = NoForm
of_number (suc (suc zero)) = WrongScript
of_number (suc (suc (suc zero))) = ReadFault
of_number (suc (suc (suc (suc zero)))) = WriteFault
of_number (suc (suc (suc (suc (suc zero))))) = WrongCapture
of_number (suc (suc (suc (suc (suc (suc zero)))))) = OutOfMemory
of_number (suc (suc (suc (suc (suc (suc (suc n))))))) = Limit

back : (status : Status) → of_number (status_number status) ≡ status
unfolding of_number
back Done = refl
back NoForm = refl
back WrongScript = refl
back ReadFault = refl
back WriteFault = refl
back WrongCapture = refl
back OutOfMemory = refl
back Limit = refl

is_by : (status due : Status) → status_number status ≡ status_number due → status ≡ due
is_by status due e = sym (back status) ∙ ap of_number e ∙ back due

-- some first octets of what was to be printed
prefix_of : (body last : List ℕ) (due status : Status) (a b : SinkState) → Printed body last due status a b → IsTrue a.tells → WritesPrefix (body ++ last) a.written b.written
prefix_of body last due status a b printed out = elim printed.how [
  | inl all ↦ subst (λ (t : List ℕ). WritesPrefix t a.written b.written) (append-nil (body ++ last)) (a_whole_text_is_a_front (body ++ last) [] a.written b.written (all.2 out))
  | inr rest ↦ elim rest [
    | inl memory ↦ memory.2 out
    | inr failed ↦ elim failed [
      | inl broken ↦ a_part_of_a_text_is_a_front body last a.written b.written (broken.2.written out)
      | inr line ↦ front_behind body last a.written b.written (part_of_line body last a.written b.written (line.3 out))
    ]
  ]
]

-- an append has failed, and so that is the status
record HasKept (body last : List ℕ) (due status : Status) (a b : SinkState) : Type 0 where
  due_is : due ≡ WriteFault
  is : status ≡ WriteFault
  front : IsTrue a.tells → WritesPrefix (body ++ last) a.written b.written

-- or none has
abbrev HasEnded : List ℕ → List ℕ → Status → Status → SinkState → SinkState → Type 0
HasEnded body last due status a b = (due ≢ WriteFault) × Printed body last due status a b

printed_or_kept : (body last : List ℕ) (due status : Status) (a b : SinkState) → IsPrintedSo body last due status a b → HasEnded body last due status a b ⊎ HasKept body last due status a b
printed_or_kept body last WriteFault status a b so = inr (record { due_is = refl; is = so.1; front = prefix_of body last WriteFault so.0 a b so.2 })
printed_or_kept body last Done status a b so = inl (λ e. cc, so)
printed_or_kept body last NoForm status a b so = inl (λ e. cc, so)
printed_or_kept body last WrongScript status a b so = inl (λ e. cc, so)
printed_or_kept body last ReadFault status a b so = inl (λ e. cc, so)
printed_or_kept body last WrongCapture status a b so = inl (λ e. cc, so)
printed_or_kept body last OutOfMemory status a b so = inl (λ e. cc, so)
printed_or_kept body last Limit status a b so = inl (λ e. cc, so)

contains_first : (text : List ℕ) → Contains (text ∷ []) text
contains_first text = (0, omega arith, refl)

by_flows : (flows : List FlowLine) (n : ℕ) → IsSome (last_of (take n flows)) → 0 < length flows
by_flows [] zero h = absurd (let no : false ≡ true = h in cc)
by_flows [] (suc n) h = absurd (let no : false ≡ true = h in cc)
by_flows (flow ∷ flows) n h = omega arith

-- where a flow is in hand, there are flows
some_flow : (script : Script) (seen : Versions) → IsSome (flow_in_hand script seen) → 0 < length script.flows
some_flow script seen h = by_flows script.flows (length seen) h

longer_prefix : (text rest whole old new : List ℕ) → text ++ rest ≡ whole → WritesPrefix text old new → WritesPrefix whole old new
longer_prefix text rest whole old new is p =
    subst (λ (t : List ℕ). WritesPrefix t old new) is
    (record { count = p.count; within = omega (arith, p.within, length-append text rest); written = p.written ∙ ap (λ t. old ++ t) (sym (take-append-le p.count text rest p.within)) })

-- no flow is in hand where none was begun
none_in_hand : (flows : List FlowLine) (of : FlowLine) → last_of (take 0 flows) ≡ Some of → ⊥
none_in_hand [] of is = absurd cc
none_in_hand (flow ∷ flows) of is = absurd cc

-- stages without an output are of flows without one
no_outputs : (flows : List FlowLine) → All (λ (stage : Stage). stage.output ≡ None) (map flow_stage flows) → All (λ (flow : FlowLine). flow.output ≡ None) flows
no_outputs [] none = All-nil (λ (flow : FlowLine). flow.output ≡ None)
no_outputs (flow ∷ flows) none =
    All-cons (λ (f : FlowLine). f.output ≡ None) flow flows (none 0 (flow_stage flow) (omega arith)) (no_outputs flows (λ k d less. none (suc k) d (omega (arith, less))))

longer_less : (text rest whole old new : List ℕ) → text ++ rest ≡ whole → WritesLess text old new → WritesLess whole old new
longer_less text rest whole old new is p =
    subst (λ (t : List ℕ). WritesLess t old new) is
    (record { count = p.count; within = omega (arith, p.within, length-append text rest); written = p.written ∙ ap (λ t. old ++ t) (sym (take-append-le p.count text rest (omega (arith, p.within)))) })

module _ (file : List ℕ) (workers : ℕ) (before : Outside) (folder : DepotState) (after : Outside) (text : List ℕ) (script : Script) (seen : Versions) (status : Status)
    (reads : IsOnlyRead before.folder folder) (counts : SameCounts before.folder.reads folder.reads)
    (holds : IsTrue before.folder.tells → before.folder.held file ≡ Some text) (is : script_read file text ≡ Ok script)
    (ends : ScriptEnds script workers (record { folder = folder; stream = before.stream }) after seen status) where
  abbrev mid : Outside
  mid = record { folder = folder; stream = before.stream }

  abbrev asked : Option Command
  asked = Some (Run file workers)

  abbrev says : Says
  says = netlabel_says asked

  abbrev stages : List Stage
  stages = reading_stage file ∷ map flow_stage (take (length seen) script.flows)

  abbrev hand : Option FlowLine
  hand = flow_in_hand script seen

  begun : HasBegun says before.folder seen stages
  begun = record {
    content = content_of before.folder.tells before.folder.held text;
    told = content_told before.folder.tells before.folder.held text;
    are = (
      length-map (take (length seen) script.flows) flow_stage ∙ length-take-le (length seen) script.flows ends.begun,
      as_script file (content_of before.folder.tells before.folder.held text file) text script (content_holds before.folder.tells before.folder.held text file holds) is _ _ _ refl,
    );
  }

  -- ---- causes

  read_rose : (name : List ℕ) → Rose (folder.reads name) (after.folder.reads name) → Rose (before.folder.reads name) (after.folder.reads name)
  read_rose name rose = subst (λ (n : ℕ). Rose n (after.folder.reads name)) (counts name) rose

  input_rose : InputRose hand mid after → ReadRose stages before after ⊎ CreateRose stages before after
  input_rose rose = elim rose.rose [
    | inl read ↦ inl (record { name = rose.of.input; in_hand = input_of_last (take (length seen) script.flows) (reading_stage file) rose.of rose.is; rose = read_rose rose.of.input read })
    | inr create ↦ inr (record {
      name = create.0;
      in_hand = output_of_last (take (length seen) script.flows) (reading_stage file) rose.of rose.is ∙ create.1;
      rose = subst (λ (n : ℕ). Rose n (after.folder.creates create.0)) (reads.creates create.0) create.2;
    })
  ]

  output_rose : OutputRose hand mid after → AppendRose stages before after
  output_rose rose = record {
    name = rose.name;
    in_hand = output_of_last (take (length seen) script.flows) (reading_stage file) rose.of rose.is ∙ rose.makes;
    rose = subst (λ (n : ℕ). Rose n (after.folder.appends rose.name)) (reads.appends rose.name) rose.rose;
  }

  unappended : SameCounts folder.appends after.folder.appends → SameCounts before.folder.appends after.folder.appends
  unappended none name = none name ∙ reads.appends name

  none_failed : NoneFailed mid after → NoneFailed before after
  none_failed none = record {
    reads = λ name. none.reads name ∙ counts name;
    creates = λ name. none.creates name ∙ reads.creates name;
    appends = unappended none.appends;
    writes = none.writes;
  }

  no_file_failed : NoFileFailed mid after → NoFileFailed before after
  no_file_failed none = record { reads = λ name. none.reads name ∙ counts name; creates = λ name. none.creates name ∙ reads.creates name; appends = unappended none.appends }

  unwritten : NoWriteFailed mid after → NoWriteFailed before after
  unwritten none = record { writes = none.writes; appends = unappended none.appends }

  -- of a flow's files nothing has failed where no flow was begun
  none_rose : seen ≡ [] → InputRose hand mid after → ⊥
  none_rose none rose = none_in_hand script.flows rose.of (ap (λ (s : Versions). flow_in_hand script s) (sym none) ∙ rose.is)

  -- so where one has failed, a flow was begun
  failed_after_text : InputRose hand mid after → FailedAfterText says seen stages before after
  failed_after_text rose =
      let begun : seen ≢ [] = λ none. none_rose none rose in
      elim (input_rose rose) [ inl read ↦ inl (read, begun) | inr make ↦ inr (make, begun) ]

  inputs : HasInputs hand mid after → NoInputFailed before after ⊎ FailedAfterText says seen stages before after
  inputs has = elim has [
    | inl none ↦ inl (record { reads = λ name. none.reads name ∙ counts name; creates = λ name. none.creates name ∙ reads.creates name })
    | inr rose ↦ inr (failed_after_text rose)
  ]

  -- an append or a write has failed
  fails_to_write : IsCauseOf hand WriteFault mid after → FailsToWrite stages before after
  fails_to_write cause = elim cause.0 [ inl write ↦ inl (unappended write.0, write.1) | inr append ↦ inr (output_rose append) ]

  cause_of : (due : Status) → status ≡ due → IsCauseOf hand due mid after
  cause_of due e = subst (λ (s : Status). IsCauseOf hand s mid after) e ends.cause

  -- ---- where the folder tells what it holds

  module _ (told : IsTrue before.folder.tells) where
    abbrev has : HasRuns script workers mid after seen ends.due status
    has = ends.runs (subst IsTrue (sym reads.told) told)

    are : AreItsRuns script before.folder.held seen has.runs
    are = runs_same (plan_of script) before.folder.held folder.held (reads.kept told) 1 packets_limit script.flows seen has.runs has.are

    -- how it was printed
    shown : HasEnded (due_body script has.runs ends.due) (due_line script has.runs ends.due) ends.due status before.stream after.stream
        ⊎ HasKept (due_body script has.runs ends.due) (due_line script has.runs ends.due) ends.due status before.stream after.stream
    shown = printed_or_kept (due_body script has.runs ends.due) (due_line script has.runs ends.due) ends.due status before.stream after.stream has.printed

    abbrev report : Report
    report = runs_report script has.runs

    has_report : says.report before.folder.held seen report
    has_report = as_script file (before.folder.held file) text script (holds told) is _ _ _ (has.runs, are, refl)

    with_status : (n : ℕ) → FlowsStatus before.folder.held 1 packets_limit script.flows n → says.status before.folder.held n
    with_status n status = as_script file (before.folder.held file) text script (holds told) is _ _ _ status

    by_event : (n : ℕ) → EndsBy n has.runs → says.status before.folder.held n
    by_event n by = with_status n (subst (FlowsStatus before.folder.held 1 packets_limit script.flows) by.has (events_have_their_status script before.folder.held seen has.runs by.event are by.is))

    -- what is due has its status, or is a refusal
    due_status : (due : Status) → IsDue script has.runs hand mid after due → says.status before.folder.held (status_number due) ⊎ IsRefusal (status_number due)
    due_status Done d = inl (with_status 0 (done_flows_have_status_0 script before.folder.held seen has.runs are d))
    due_status NoForm d = absurd d
    due_status WrongScript d = absurd d
    due_status ReadFault d = inr (inl refl)
    due_status WriteFault d = inr (inr (inl refl))
    due_status WrongCapture d = inl (by_event 5 d)
    due_status OutOfMemory d = inr (inr (inr refl))
    due_status Limit d = inl (by_event 7 d)

    abbrev Told : Status → Type 0
    Told s = says.status before.folder.held (status_number s) ⊎ IsRefusal (status_number s)

    status_due : Told status
    status_due = elim shown [
      | inl printed ↦ elim printed.1.how [
        | inl all ↦ subst Told (sym all.0) (due_status ends.due has.is_due)
        | inr rest ↦ elim rest [
          | inl memory ↦ inr (inr (inr (ap status_number memory.0)))
          | inr failed ↦ elim failed [
            | inl broken ↦ inr (inr (inl (ap status_number broken.0)))
            | inr line ↦ subst Told (sym line.0) (due_status ends.due has.is_due)
          ]
        ]
      ]
      | inr kept ↦ inr (inr (inl (ap status_number kept.is)))
    ]

    -- ---- what was printed

    -- some first octets of what is printed with the event's line
    due_prefix : IsTrue before.stream.tells → WritesPrefix (due_body script has.runs ends.due ++ due_line script has.runs ends.due) before.stream.written after.stream.written
    due_prefix out = elim shown [ inl printed ↦ prefix_of (due_body script has.runs ends.due) (due_line script has.runs ends.due) ends.due status before.stream after.stream printed.1 out | inr kept ↦ kept.front out ]

    part : IsTrue before.stream.tells → IsWritten [] before after
        ⊎ ((r : Report) × says.report before.folder.held seen r × WritesPrefix (report_text r) before.stream.written after.stream.written)
    part out =
        let begins = report_begins script has.runs ends.due in
        inr (report, has_report, longer_prefix (due_body script has.runs ends.due ++ due_line script has.runs ends.due) begins.0 (report_text report) before.stream.written after.stream.written begins.1 (due_prefix out))

    event_whole : (n : ℕ) → EndsBy n has.runs → AreWholeRuns script has.runs
    event_whole n by = event_is_whole script before.folder.held 1 packets_limit seen has.runs by.event are by.is

    no_last : last_event has.runs ≡ None → [] ≡ report.last
    no_last none = sym (ap (λ (e : Option Event). option_map_or (λ (x : Event). x.line) e []) none)

    -- the flows have finished, nothing was left out, and what was to be printed is the report
    record Finished (due : Status) : Type 0 where
      finished : HasFinished due
      whole : AreWholeRuns script has.runs
      body : due_body script has.runs due ≡ report.body
      last : due_line script has.runs due ≡ report.last

    finished_due : (due : Status) → IsDue script has.runs hand mid after due → IsUnrefused (status_number due) → Finished due
    finished_due Done d unrefused = record { finished = tt; whole = done_is_whole script before.folder.held 1 packets_limit seen has.runs are d; body = refl; last = no_last (done_has_no_event script has.runs d) }
    finished_due NoForm d unrefused = absurd d
    finished_due WrongScript d unrefused = absurd d
    finished_due ReadFault d unrefused = absurd (unrefused (inl refl))
    finished_due WriteFault d unrefused = absurd (unrefused (inr (inl refl)))
    finished_due WrongCapture d unrefused = record { finished = tt; whole = event_whole 5 d; body = refl; last = refl }
    finished_due OutOfMemory d unrefused = absurd (unrefused (inr (inr refl)))
    finished_due Limit d unrefused = record { finished = tt; whole = event_whole 7 d; body = refl; last = refl }

    append_rose : ends.due ≡ WriteFault → AppendRose stages before after
    append_rose is = output_rose (subst (IsDue script has.runs hand mid after) is has.is_due)

    -- so it is with each status that is no refusal's
    finished_ends : IsUnrefused (status_number status) → Finished ends.due × (IsTrue before.stream.tells → PrintsReport report before after (status_number status))
    finished_ends unrefused = elim shown [
      | inl printed ↦ elim printed.1.how [
        | inl all ↦
            let f = finished_due ends.due has.is_due (so all.0) in
            (f, λ out. inl (all.1, subst (λ (t : List ℕ). IsWritten t before after) (whole_text f) (all.2 out)))
        | inr rest ↦ elim rest [
          | inl memory ↦ absurd (so memory.0 (inr (inr refl)))
          | inr failed ↦ elim failed [
            | inl broken ↦ absurd (so broken.0 (inr (inl refl)))
            | inr line ↦
                let f = finished_due ends.due has.is_due (so line.0) in
                (f, λ out. inr (λ zero. omega (arith, line.2, no_line (sym line.0 ∙ is_by status Done zero)), never_8 status, line.1, in_its_line f (line.3 out)))
          ]
        ]
      ]
      | inr kept ↦ absurd (so kept.is (inr (inl refl)))
    ] where
      so : {s : Status} → status ≡ s → IsUnrefused (status_number s)
      so is = subst (λ (s : Status). IsUnrefused (status_number s)) is unrefused

      no_line : ends.due ≡ Done → length (due_line script has.runs ends.due) ≡ 0
      no_line done = ap (λ (d : Status). length (due_line script has.runs d)) done

      whole_text : Finished ends.due → due_body script has.runs ends.due ++ due_line script has.runs ends.due ≡ report_text report
      whole_text f = ap₂ (λ (b l : List ℕ). b ++ l) f.body f.last

      in_its_line : Finished ends.due → EndsInLine (due_body script has.runs ends.due) (due_line script has.runs ends.due) before.stream.written after.stream.written
          → EndsInLine report.body report.last before.stream.written after.stream.written
      in_its_line f ends' =
          subst (λ (b : List ℕ). EndsInLine b report.last before.stream.written after.stream.written) f.body
          (subst (λ (l : List ℕ). EndsInLine (due_body script has.runs ends.due) l before.stream.written after.stream.written) f.last ends')

    -- every report of what was asked for has the same texts where a call of the folder can fail
    pauses : (r : Report) → says.report before.folder.held seen r → Contains r.pauses (pause_text script has.runs)
    pauses r has' =
        let h = from_script file (before.folder.held file) text script (holds told) is _ _ _ has' in
        let same : r ≡ report = h.2 ∙ ap (runs_report script) (runs_are_determined (plan_of script) before.folder.held 1 packets_limit script.flows seen h.0 has.runs h.1 are) in
        subst (λ (x : Report). Contains x.pauses (pause_text script has.runs)) (sym same) (contains_first (pause_text script has.runs))

    pause : IsTrue before.stream.tells → status_number status ≡ 3
        → (t : List ℕ) × IsWritten t before after × ((r : Report) → says.report before.folder.held seen r → Contains r.pauses t)
    pause out e =
        let read = is_by status ReadFault e in
        elim shown [
          | inl printed ↦ elim printed.1.how [
            | inl all ↦
                let due : ends.due ≡ ReadFault = sym all.0 ∙ read in (
                  pause_text script has.runs,
                  all.2 out ∙ ap (λ (d : Status). before.stream.written ++ (due_body script has.runs d ++ due_line script has.runs d)) due ∙ ap (λ t. before.stream.written ++ t) (append-nil (pause_text script has.runs)),
                  pauses,
                )
            | inr rest ↦ absurd (elim rest [
              | inl memory ↦ omega (arith, e, ap status_number memory.0)
              | inr failed ↦ elim failed [
                | inl broken ↦ omega (arith, e, ap status_number broken.0)
                | inr line ↦ omega (arith, line.2, ap (λ (d : Status). length (due_line script has.runs d)) (sym line.0 ∙ read))
              ]
            ])
          ]
          | inr kept ↦ absurd (omega (arith, e, ap status_number kept.is))
        ]

    stop : status_number status ≡ 4 → StopsInBody says before after seen ⊎ StopsAtAppend says before after seen stages
    stop e =
        let write = is_by status WriteFault e in
        elim shown [
          | inl printed ↦ elim printed.1.how [
            | inl all ↦ absurd (printed.0 (sym all.0 ∙ write))
            | inr rest ↦ elim rest [
              | inl memory ↦ absurd (omega (arith, e, ap status_number memory.0))
              | inr failed ↦ elim failed [
                | inl broken ↦
                    let begins = body_begins script has.runs ends.due in
                    inl (record {
                      appends = unappended (ends.appends printed.0);
                      report = report;
                      has = has_report;
                      some = omega (arith, broken.2.some, ap length begins.1, length-append (due_body script has.runs ends.due) begins.0);
                      part = λ out. longer_less (due_body script has.runs ends.due) begins.0 report.body before.stream.written after.stream.written begins.1 (broken.2.written out);
                    })
                | inr line ↦ absurd (printed.0 (sym line.0 ∙ write))
              ]
            ]
          ]
          | inr kept ↦ inr (record {
            rose = append_rose kept.due_is;
            text = pause_text script has.runs;
            pauses = pauses;
            part = λ out. subst (λ (t : List ℕ). WritesPrefix t before.stream.written after.stream.written) (pause_due kept.due_is) (kept.front out);
          })
        ] where
          pause_due : ends.due ≡ WriteFault → due_body script has.runs ends.due ++ due_line script has.runs ends.due ≡ pause_text script has.runs
          pause_due is = ap (λ (d : Status). due_body script has.runs d ++ due_line script has.runs d) is ∙ append-nil (pause_text script has.runs)

    prints : Prints says before after (status_number status) seen stages
    prints = record { whole = λ out unrefused. (report, has_report, (finished_ends unrefused).1 out); part = part; pause = pause; stop = stop }

    -- ---- files

    kept : SameHeld before.folder.held folder.held
    kept = reads.kept told

    begun_here : (output : Output) → IsBegun output folder.held after.folder.held → IsBegun output before.folder.held after.folder.held
    begun_here output begins = elim begins [ inl same ↦ inl (same ∙ kept output.name) | inr some ↦ inr some ]

    made_here : (output : Output) → IsMade output folder.held after.folder.held → IsMade output before.folder.held after.folder.held
    made_here output made = (made.0, λ none. made.1 none ∙ kept output.name)

    leaves : Leaves says before after (status_number status) seen stages
    leaves = record {
      outputs = runs_outputs has.runs;
      are = as_script file (before.folder.held file) text script (holds told) is _ _ _ (has.runs, are, refl);
      begun = λ k d within. begun_here _ (has.begun k d within);
      earlier = λ some. (
        runs_outputs (take (length seen - 1) has.runs),
        as_script file (before.folder.held file) text script (holds told) is _ _ _ (take (length seen - 1) has.runs, runs_front (plan_of script) before.folder.held (length seen - 1) 1 packets_limit script.flows seen has.runs are, refl),
        λ k d within. made_here _ (has.earlier k d within),
      );
      whole = λ unrefused k d within. made_here _ (has.made (finished_ends unrefused).0.finished k d within);
      others = λ name none. has.others name (none_of_theirs has.runs name none) ∙ kept name;
      unmade = λ name none. has.others name (none_makes (plan_of script) before.folder.held name 1 packets_limit script.flows seen has.runs are (λ k d less. none (suc k) d (omega (arith, less)))) ∙ kept name;
    }

    lawful : says.lawful before.folder.held seen
    lawful = as_script file (before.folder.held file) text script (holds told) is _ _ _ (has.runs, are, has.lawful)

    whole : IsUnrefused (status_number status) → says.whole before.folder.held seen
    whole unrefused = as_script file (before.folder.held file) text script (holds told) is _ _ _ (has.runs, are, (finished_ends unrefused).0.whole)

  -- ---- the call

  possible : (s : Status) → IsCauseOf hand s mid after → says.possible (status_number s) ⊎ IsRefusal (status_number s)
  possible Done cause = inl (text, subst (λ (r : Result Script ScriptStop). RunMay r 0) (sym is) (inl refl))
  possible NoForm cause = absurd cause
  possible WrongScript cause = absurd cause
  possible ReadFault cause = inr (inl refl)
  possible WriteFault cause = inr (inr (inl refl))
  possible WrongCapture cause = inl (text, subst (λ (r : Result Script ScriptStop). RunMay r 5) (sym is) (inr (some_flow script seen cause.0, inl refl)))
  possible OutOfMemory cause = inr (inr (inr refl))
  possible Limit cause = inl (text, subst (λ (r : Result Script ScriptStop). RunMay r 7) (sym is) (inr (some_flow script seen cause.0, inr refl)))

  decided : (s : Status) → IsCauseOf hand s mid after → IsUnrefused (status_number s) → NoFileFailed before after
  decided Done cause unrefused = no_file_failed (record { reads = cause.reads; creates = cause.creates; appends = cause.appends })
  decided NoForm cause unrefused = absurd cause
  decided WrongScript cause unrefused = absurd cause
  decided ReadFault cause unrefused = absurd (unrefused (inl refl))
  decided WriteFault cause unrefused = absurd (unrefused (inr (inl refl)))
  decided WrongCapture cause unrefused = no_file_failed cause.1
  decided OutOfMemory cause unrefused = absurd (unrefused (inr (inr refl)))
  decided Limit cause unrefused = no_file_failed cause.1

  with_ends : EndsWith says asked before after (status_number status) seen stages
  with_ends = record {
    due = status_due;
    possible = possible status ends.cause;
    no_form = λ e. absurd (cause_of NoForm (is_by status NoForm e));
    usage = λ none. absurd cc;
    read_fault = λ e. let cause = cause_of ReadFault (is_by status ReadFault e) in (unwritten cause.0, input_rose cause.1);
    write_fault = λ e. let cause = cause_of WriteFault (is_by status WriteFault e) in (fails_to_write cause, inputs cause.1);
    memory = λ e. let cause = cause_of OutOfMemory (is_by status OutOfMemory e) in (unwritten cause.0, inputs cause.1);
    decided = decided status ends.cause;
    unmoved = λ done. elim done [ inl none ↦ none_failed (cause_of Done (is_by status Done none)) | inr eight ↦ absurd (never_8 status eight) ];
  }

  pub run_ends : CallEnds netlabel_says asked before after (status_number status) seen
  run_ends = record {
    stages = stages;
    begun = begun;
    ends = with_ends;
    prints = λ known. prints (known tt);
    leaves = leaves;
    lawful = lawful;
    whole = whole;
    access = λ told. has_access asked before.folder.held seen;
    withheld = λ told. withholds asked before.folder.held seen;
    silent = λ out e. inl (failed_after_text (cause_of ReadFault (is_by status ReadFault e)).1);
    still = λ none.
        let same = ends.still (no_outputs (take (length seen) script.flows) (λ k d less. none (suc k) d (omega (arith, less)))) in
        (λ name. same.0 name ∙ reads.creates name, λ name. same.1 name ∙ reads.appends name);
    folder_told = ends.folder_told ∙ reads.told;
    stream_told = ends.stream_told;
  }

-- ---- where there is no script

by_read : (refused : ScriptStop → Type 0) (read : Script → Type 0) → ((why : ScriptStop) → refused why) → ((script : Script) → read script) → (answer : Result Script ScriptStop)
    → ByAnswer answer refused read
by_read refused read r s (Err why) = r why
by_read refused read r s (Ok script) = s script

-- what is so of each text is so of the file
of_each : (file : List ℕ) (absent : Type 0) (refused : ScriptStop → Type 0) (read : Script → Type 0) → absent → ((why : ScriptStop) → refused why) → ((script : Script) → read script) → (held : Option (List ℕ))
    → ByScript file held absent refused read
of_each file absent refused read a r s None = a
of_each file absent refused read a r s (Some text) = by_read refused read r s (script_read file text)

-- a text that is none
of_refused : (file : List ℕ) (held : Option (List ℕ)) (text : List ℕ) (why : ScriptStop) → held ≡ Some text → script_read file text ≡ Err why
    → (absent : Type 0) (refused : ScriptStop → Type 0) (read : Script → Type 0) → refused why → ByScript file held absent refused read
of_refused file held text why holds is absent refused read h =
    subst (λ (o : Option (List ℕ)). ByScript file o absent refused read) (sym holds) (subst (λ (r : Result Script ScriptStop). ByAnswer r refused read) (sym is) h)

-- its report where no flow has begun
abbrev BeginsSo : List ℕ → Folder → Option (List ℕ) → Report → Type 0
BeginsSo file held o report = ByScript file o (report ≡ late_report [] []) (λ stop. report ≡ late_report [] (script_stop_line stop))
    (λ script. (runs : List FlowRun) × AreItsRuns script held [] runs × (report ≡ runs_report script runs))

none_run : (plan : PlanState) (held : Folder) (number most : ℕ) (flows : List FlowLine) (runs : List FlowRun) → AreRuns plan held number most flows [] runs → runs ≡ []
none_run plan held number most flows [] h = refl
none_run plan held number most [] (run ∷ runs) h = absurd h
none_run plan held number most (flow ∷ flows) (run ∷ runs) h = absurd h

pauses_by : (held : Folder) (answer : Result Script ScriptStop) (r : Report) → ByAnswer answer (λ stop. r ≡ late_report [] (script_stop_line stop))
    (λ script. (runs : List FlowRun) × AreItsRuns script held [] runs × (r ≡ runs_report script runs)) → Contains r.pauses []
pauses_by held (Err why) r h = subst (λ (x : Report). Contains x.pauses []) (sym h) (contains_first [])
pauses_by held (Ok script) r h =
    let same : r ≡ runs_report script [] = h.2 ∙ ap (runs_report script) (none_run (plan_of script) held 1 packets_limit script.flows h.0 h.1) in
    subst (λ (x : Report). Contains x.pauses []) (sym same) (contains_first [])

pauses_so : (file : List ℕ) (held : Folder) (o : Option (List ℕ)) (r : Report) → BeginsSo file held o r → Contains r.pauses []
pauses_so file held None r h = subst (λ (x : Report). Contains x.pauses []) (sym h) (contains_first [])
pauses_so file held (Some text) r h = pauses_by held (script_read file text) r h

-- what it knows of the file that it reads
pub run_reads : (file : List ℕ) (workers : ℕ) → ReadsScript (netlabel_says (Some (Run file workers))) file
run_reads file workers = record {
  depends = tt;
  knows = λ before after reads told. knows_reading (netlabel_says (Some (Run file workers))) (reading_stage file ∷ []) before after
      (refl, of_each file _ _ _ refl (λ why. refl) (λ script. refl) (before.folder.held file))
      (of_each file _ _ _ refl (λ why. refl) (λ script. ([], tt, refl)) (before.folder.held file))
      (of_each file _ _ _ refl (λ why. refl) (λ script. ([], tt, All-nil (IsLawfulRun script workers))) (before.folder.held file))
      (has_access (Some (Run file workers)) before.folder.held []) (withholds (Some (Run file workers)) before.folder.held []) reads told;
  refused = λ held text why holds is. record {
    status = of_refused file (held file) text why holds is _ _ _ refl;
    report = of_refused file (held file) text why holds is _ _ _ refl;
    whole = of_refused file (held file) text why holds is _ _ _ refl;
  };
  may = λ text why is. (text, subst (λ (r : Result Script ScriptStop). RunMay r (script_stop_status why)) (sym is) refl);
  pauses = λ held report has. pauses_so file held (held file) report has;
}
