-- What comes behind a flow: the next one begins, or the call ends there.
use Rattle.std.proofs.Common.{◌≡◌, ◌≤◌, ℕ, ◌+◌, ◌-◌, true, cond, List, [], ◌∷◌, ◌++◌, length, Some, None, Result, Ok, Err, refl, sym, ap, subst, ◌∙◌, arith, append_assoc, inl, inr}
use Rattle.std.specs.Prelude.{slice_get}
use Rattle.std.specs.List.{list_all}
use Rattle.std.specs.Option.{option_map_or}
use Rattle.std.proofs.lemmas.List.{append-nil}
use Rattle.net_io.specs.declared.fault.IoFault.{IoFault}
use Rattle.net_io.specs.declared.fault.IoFault.TheVariants.{Failed, OutOfMemory as NoMemory}
use Rattle.net_io.specs.Faults.{Rose, SameCounts}
use Rattle.net_io.specs.Sink.{SinkState}
use Rattle.node_tables.specs.Steps.{tables_after}
use Rattle.call_report.specs.Lines.Reply.{replies_text}
use Rattle.call_report.specs.Lines.Fixed.{done_line, packets_limit_line}
use Rattle.call_report.specs.Lines.Capture.{capture_line}
use Rattle.captures.specs.declared.fault.FileFault.{FileFault}
use Rattle.label_commands.specs.declared.flow_lines.flow.FlowLine.{FlowLine}
use Rattle.label_commands.specs.declared.script.Script.{Script}
use Rattle.label_commands.specs.Script.{before}
use Rattle.label_commands.specs.Sound.{IsSoundScript}
use Rattle.call_report.specs.declared.status.Status.{Status}
use Rattle.call_report.specs.declared.status.Status.TheVariants.{ReadFault, WriteFault, WrongCapture, OutOfMemory, Limit}
use Rattle.call_report.specs.Status.{write_status}
use Rattle.call_report.specs.Report.{Versions}
use Rattle.call_report.specs.Event.{Event}
use Rattle.call_report.specs.Outside.{Outside, NoneFailed, NoFileFailed, NoInputFailed, NoWriteFailed}
use Rattle.call_report.specs.Printing.{HandsOn, Printed}
use Rattle.call_report.proofs.Law.{texts_join}
use Rattle.script_run.specs.declared.flow_run.end.FlowEnd.{FlowEnd}
use Rattle.script_run.specs.declared.flow_run.end.FlowEnd.TheVariants.{GoesOn, Broken, TooMany, Stopped}
use Rattle.script_run.specs.declared.flow_run.end.FlowStop.{FlowStop}
use Rattle.script_run.specs.declared.flow_run.end.FlowStop.TheVariants as stop
use Rattle.script_run.specs.flow_run.Run.{FlowRun, is_judged, goes_on, run_text, run_end}
use Rattle.script_run.specs.flow_run.Ends.{FlowEnds, HasReadInput, IsRunOf}
use Rattle.script_lines.specs.declared.command.Step.{Step}
use Rattle.script_run.specs.declared.turn.Next.{Next}
use Rattle.label_flow.specs.flow_access.Valid.{plan_of}
use Rattle.script_run.specs.Runs.{is_done, last_event}
use Rattle.script_run.specs.Report.{first_replies, replies_behind, turn_text, runs_report}
use Rattle.script_run.specs.Ends.{IsCauseOf, HasInputs, InputRose, OutputRose, ScriptEnds}
use Rattle.script_run.specs.inside.Turn.{IsTurnEnd}
use Rattle.script_run.proofs.Handing.{way_of, printed_behind, printed_failing, printed_broken, printed_in_part, printed_more, in_parts, ends_so, ends_done}
use Rattle.script_run.proofs.Runs.{turns_text, turns_behind, pause_behind, turn_on, turn_off, not_done, event_stops, last_event_behind}
use Rattle.script_run.proofs.Underway.{HaveRun, AreUnderWay, goes_on_so, ends_here}

-- ---- the parts of a flow's text, and of the report up to it

module _ (script : Script) (runs : List FlowRun) (run : FlowRun) where
  abbrev ending : List ℕ
  ending = cond (is_done script (runs ++ run ∷ [])) done_line []

  -- all of the flow's text, with what ends the script where it is the last one
  pub body_whole : first_replies script ++ (turns_text script runs ++ (turn_text script run ++ ending)) ≡ (runs_report script (runs ++ run ∷ [])).body
  body_whole =
      ap (λ t. first_replies script ++ t)
      (sym (append_assoc (turns_text script runs) (turn_text script run) ending) ∙ ap (λ t. t ++ ending) (sym (turns_behind script runs run)))

  -- where an event stands behind the flow
  pub body_event : (event : Event) → list_all goes_on runs ≡ true → run.input.event ≡ Some event
      → first_replies script ++ (turns_text script runs ++ run_text script.nodes run) ≡ (runs_report script (runs ++ run ∷ [])).body
  body_event event on is =
      let off = event_stops run event is in
      ap (λ t. first_replies script ++ (turns_text script runs ++ t))
      (sym (append-nil (run_text script.nodes run)) ∙ ap (λ t. t ++ []) (sym (turn_off script run off)) ∙ ap (λ b. turn_text script run ++ cond b done_line []) (sym (not_done script runs run on off)))
      ∙ body_whole

  pub event_last : (event : Event) → is_judged run ≡ true → run.input.event ≡ Some event → last_event (runs ++ run ∷ []) ≡ Some event
  event_last event judged is = last_event_behind runs run ∙ ap (λ b. cond b run.input.event None) judged ∙ is

  pub event_line : (event : Event) → is_judged run ≡ true → run.input.event ≡ Some event → event.line ≡ (runs_report script (runs ++ run ∷ [])).last
  event_line event judged is = ap (λ e. option_map_or (λ (x : Event). x.line) e []) (sym (event_last event judged is))

-- the next flow begins with the tables of the steps above it
pub network_next : (names : List (List ℕ)) (steps : List Step) (number from upto : ℕ) (end : FlowEnd) (waits : List ℕ) (a b : SinkState) (next : Next)
    → IsTurnEnd names steps number from upto end waits a b (Ok next) → next.network ≡ tables_after (length names) steps upto
network_next names steps number from upto GoesOn waits a b next ends = ends.0
network_next names steps number from upto (Broken fault) waits a b next ends = absurd ends
network_next names steps number from upto TooMany waits a b next ends = absurd ends
network_next names steps number from upto (Stopped stop.Read) waits a b next ends = absurd ends
network_next names steps number from upto (Stopped stop.Create) waits a b next ends = absurd ends
network_next names steps number from upto (Stopped stop.Append) waits a b next ends = absurd ends
network_next names steps number from upto (Stopped stop.Print) waits a b next ends = absurd ends
network_next names steps number from upto (Stopped stop.OutOfMemory) waits a b next ends = absurd ends

module _
    (own : List ℕ) (script : Script) (sound : IsSoundScript own script) (workers : ℕ) (start now mid : Outside) (waits waits' : List ℕ) (left k : ℕ) (seen : Versions)
    (under : AreUnderWay script workers start now waits left seen) (count : length seen ≡ k) (flow : FlowLine) (at : slice_get script.flows k ≡ Some flow) (lists : List (List ℕ)) where
  abbrev Ran : FlowEnd → Type 0
  Ran end = FlowEnds (plan_of script) script.nodes workers (k + 1) left (before script (k + 1)) flow now mid waits waits' lists end

  abbrev Ends : FlowEnd → SinkState → Result Next Status → Type 0
  Ends end c result = IsTurnEnd script.nodes script.steps (k + 1) flow.before (before script (k + 1)) end waits' mid.stream c result

  abbrev RunOf : FlowEnd → Type 0
  RunOf end = IsRunOf (plan_of script) script.nodes workers (k + 1) left (before script (k + 1)) flow now mid waits waits' lists end

  abbrev after : SinkState → Outside
  after c = record { folder = mid.folder; stream = c }

  -- faults that rose behind the flow rose over the whole call
  rose_over : (c : SinkState) → now.stream.faults ≤ mid.stream.faults → Rose mid.stream.faults c.faults → Rose start.stream.faults c.faults
  rose_over c less (inl rose) = inl (omega (arith, less, rose, under.none.writes))
  rose_over c less (inr full) = inr full

  rose_here : (c : SinkState) → Rose now.stream.faults c.faults → Rose start.stream.faults c.faults
  rose_here c rose = subst (λ (n : ℕ). Rose n c.faults) under.none.writes rose

  -- no append has failed, of this flow or before it
  no_append_over : (c : SinkState) → SameCounts now.folder.appends mid.folder.appends → SameCounts start.folder.appends (after c).folder.appends
  no_append_over c none name = none name ∙ under.none.appends name

  unwritten_over : (c : SinkState) → NoWriteFailed now mid → c.faults ≡ mid.stream.faults → NoWriteFailed start (after c)
  unwritten_over c none same = record { writes = same ∙ none.writes ∙ under.none.writes; appends = no_append_over c none.appends }

  -- nor any read or making
  no_input_over : (c : SinkState) → SameCounts now.folder.reads mid.folder.reads → SameCounts now.folder.creates mid.folder.creates → NoInputFailed start (after c)
  no_input_over c reads creates = record { reads = λ name. reads name ∙ under.none.reads name; creates = λ name. creates name ∙ under.none.creates name }

  no_file_over : (c : SinkState) → NoneFailed now mid → NoFileFailed start (after c)
  no_file_over c none =
      let inputs = no_input_over c none.reads none.creates in
      record { reads = inputs.reads; creates = inputs.creates; appends = no_append_over c none.appends }

  -- a write has failed after the flow, and no append
  write_over : (c : SinkState) → now.stream.faults ≤ mid.stream.faults → SameCounts now.folder.appends mid.folder.appends → HasInputs (Some flow) start (after c)
      → Rose mid.stream.faults c.faults → IsCauseOf (Some flow) WriteFault start (after c)
  write_over c less none inputs rose = (inl (no_append_over c none, rose_over c less rose), inputs)

  write_here : (c : SinkState) → NoneFailed now mid → now.stream.faults ≤ mid.stream.faults → Rose mid.stream.faults c.faults → IsCauseOf (Some flow) WriteFault start (after c)
  write_here c none less = write_over c less none.appends (inl (no_input_over c none.reads none.creates))

  -- memory ran out where nothing has failed
  short_here : (c : SinkState) → NoneFailed now mid → c.faults ≡ mid.stream.faults → IsCauseOf (Some flow) OutOfMemory start (after c)
  short_here c none same = (unwritten_over c (record { writes = none.writes; appends = none.appends }) same, inl (no_input_over c none.reads none.creates))

  -- a call on a file of the flow has failed
  input_rose : (c : SinkState) → Rose (now.folder.reads flow.input) (mid.folder.reads flow.input) → InputRose (Some flow) start (after c)
  input_rose c rose = record { of = flow; is = refl; rose = inl (subst (λ (n : ℕ). Rose n (mid.folder.reads flow.input)) (under.none.reads flow.input) rose) }

  create_rose : (c : SinkState) (name : List ℕ) → flow.output ≡ Some name → Rose (now.folder.creates name) (mid.folder.creates name) → InputRose (Some flow) start (after c)
  create_rose c name is rose = record { of = flow; is = refl; rose = inr (name, is, subst (λ (n : ℕ). Rose n (mid.folder.creates name)) (under.none.creates name) rose) }

  output_rose : (c : SinkState) (name : List ℕ) → flow.output ≡ Some name → Rose (now.folder.appends name) (mid.folder.appends name) → OutputRose (Some flow) start (after c)
  output_rose c name is rose = record { of = flow; is = refl; name = name; makes = is; rose = subst (λ (n : ℕ). Rose n (mid.folder.appends name)) (under.none.appends name) rose }

  -- a read of its input may have, after the packets that were judged
  inputs_over : (c : SinkState) → HasReadInput flow now mid → HasInputs (Some flow) start (after c)
  inputs_over c read = elim read.reads [ inl same ↦ inl (no_input_over c same read.creates) | inr rose ↦ inr (input_rose c rose) ]

  -- ---- the replies behind it

  replies_of : (ir : RunOf GoesOn) → replies_text script.nodes script.steps flow.before (before script (k + 1) - flow.before) ≡ replies_behind script ir.run
  replies_of ir =
      ap (λ (f : FlowLine). replies_text script.nodes script.steps f.before (before script (k + 1) - f.before)) (sym ir.flow_is)
      ∙ ap (λ n. replies_text script.nodes script.steps ir.run.flow.before (before script n - ir.run.flow.before)) (sym ir.numbered)

  -- the text of a turn in its parts, as it was handed on
  turn_is : (ir : RunOf GoesOn)
      → (run_text script.nodes ir.run ++ run_end ir.run) ++ replies_text script.nodes script.steps flow.before (before script (k + 1) - flow.before) ≡ turn_text script ir.run
  turn_is ir =
      append_assoc (run_text script.nodes ir.run) (run_end ir.run) (replies_text script.nodes script.steps flow.before (before script (k + 1) - flow.before))
      ∙ ap (λ t. run_text script.nodes ir.run ++ (run_end ir.run ++ t)) (replies_of ir)
      ∙ sym (turn_on script ir.run ir.ends)

  turn_handed : {T : Type 0} (ir : RunOf GoesOn) (result : Result T IoFault) (still : List ℕ) (c : SinkState)
      → HandsOn (replies_text script.nodes script.steps flow.before (before script (k + 1) - flow.before)) waits' still result mid.stream c → HandsOn (turn_text script ir.run) waits still result now.stream c
  turn_handed {T} ir result still c hands =
      subst (λ (t : List ℕ). HandsOn t waits still result now.stream c) (turn_is ir)
      (texts_join (run_text script.nodes ir.run ++ run_end ir.run) (replies_text script.nodes script.steps flow.before (before script (k + 1) - flow.before)) waits waits' still tt result now.stream mid.stream c ir.printed hands)

  -- ---- the next flow

  pub next_begins : (end : FlowEnd) (c : SinkState) (next : Next) → Ran end → Ends end c (Ok next)
      → AreUnderWay script workers start (after c) next.report.waiting.items (left - length lists) (seen ++ lists ∷ [])
  next_begins GoesOn c next ran ends =
      goes_on_so own script sound workers start now mid waits waits' left k seen under count flow at lists GoesOn ran c next.report.waiting.items tt
      (record { reads = ran.cause.reads; creates = ran.cause.creates; appends = ran.cause.appends; writes = ends.1.counts.ok ∙ ran.cause.writes }) ends.1.told
      (λ have ir. (ir.ends, way_of (turn_text script ir.run) waits next.report.waiting.items tt now.stream c (turn_handed ir (Ok tt) next.report.waiting.items c ends.1)))
  next_begins (Broken fault) c next ran ends = absurd ends
  next_begins TooMany c next ran ends = absurd ends
  next_begins (Stopped stop.Read) c next ran ends = absurd ends
  next_begins (Stopped stop.Create) c next ran ends = absurd ends
  next_begins (Stopped stop.Append) c next ran ends = absurd ends
  next_begins (Stopped stop.Print) c next ran ends = absurd ends
  next_begins (Stopped stop.OutOfMemory) c next ran ends = absurd ends

  -- ---- the call ends

  -- not all replies were printed
  replies_fail : (c : SinkState) (still : List ℕ) (fault : IoFault) → Ran GoesOn
      → HandsOn {T = Unit {0}} (replies_text script.nodes script.steps flow.before (before script (k + 1) - flow.before)) waits' still (Err fault) mid.stream c
      → ScriptEnds script workers start (after c) (seen ++ lists ∷ []) (write_status fault)
  replies_fail c still fault ran hands =
      ends_here own script sound workers start now mid waits waits' left k seen under count flow at lists GoesOn ran c OutOfMemory (write_status fault) (λ e. absurd e) (λ other. ran.cause.appends) hands.told (cause fault hands)
      (λ have ir. record {
        part = turn_text script ir.run ++ ending script have.runs ir.run;
        printed = printed_cut ir (ending script have.runs ir.run);
        body = body_whole script have.runs ir.run;
        is_due = tt;
      }) where
        cause : (fault : IoFault) → HandsOn {T = Unit {0}} (replies_text script.nodes script.steps flow.before (before script (k + 1) - flow.before)) waits' still (Err fault) mid.stream c
            → IsCauseOf (Some flow) (write_status fault) start (after c)
        cause Failed h = write_here c ran.cause ran.faults (h.counts.cause refl)
        cause NoMemory h = short_here c ran.cause (h.counts.still (λ failed. absurd cc))

        printed_cut : (ir : RunOf GoesOn) (more : List ℕ) → Printed (waits ++ (turn_text script ir.run ++ more)) [] OutOfMemory (write_status fault) now.stream c
        printed_cut ir more =
            subst (λ (t : List ℕ). Printed t [] OutOfMemory (write_status fault) now.stream c) (append_assoc waits (turn_text script ir.run) more)
            (printed_more (waits ++ turn_text script ir.run) more (write_status fault) now.stream c (printed_failing (turn_text script ir.run) waits still fault OutOfMemory now.stream c (turn_handed ir (Err fault) still c hands)))

  -- an event of a capture
  broken : (fault : FileFault) (c : SinkState) (status : Status) → Ran (Broken fault) → Printed waits' (capture_line (k + 1) fault) WrongCapture status mid.stream c
      → ScriptEnds script workers start (after c) (seen ++ lists ∷ []) status
  broken fault c status ran printed =
      ends_here own script sound workers start now mid waits waits' left k seen under count flow at lists (Broken fault) ran c WrongCapture status (λ e. tt) (λ other. ran.cause.appends) printed.told
      (ends_so (λ s. IsCauseOf (Some flow) s start (after c)) waits' (capture_line (k + 1) fault) WrongCapture status mid.stream c printed (refl, no_file_over c ran.cause) (short_here c ran.cause) (write_here c ran.cause ran.faults))
      (λ have ir.
      let event : Event = record { status = 5; line = capture_line ir.run.number fault } in
      let line : capture_line (k + 1) fault ≡ (runs_report script (have.runs ++ ir.run ∷ [])).last = ap (λ n. capture_line n fault) (sym ir.numbered) ∙ event_line script have.runs ir.run event ir.ends.0 ir.ends.1 in
      record {
        part = run_text script.nodes ir.run;
        printed = subst (λ (l : List ℕ). Printed (waits ++ run_text script.nodes ir.run) l WrongCapture status now.stream c) line
            (printed_behind (run_text script.nodes ir.run) waits waits' (capture_line (k + 1) fault) tt WrongCapture status now.stream mid.stream c ir.printed printed);
        body = body_event script have.runs ir.run event have.on ir.ends.1;
        is_due = record { event = event; is = event_last script have.runs ir.run event ir.ends.0 ir.ends.1; has = refl };
      })

  too_many : (c : SinkState) (status : Status) → Ran TooMany → Printed waits' packets_limit_line Limit status mid.stream c → ScriptEnds script workers start (after c) (seen ++ lists ∷ []) status
  too_many c status ran printed =
      ends_here own script sound workers start now mid waits waits' left k seen under count flow at lists TooMany ran c Limit status (λ e. tt) (λ other. ran.cause.appends) printed.told
      (ends_so (λ s. IsCauseOf (Some flow) s start (after c)) waits' packets_limit_line Limit status mid.stream c printed (refl, no_file_over c ran.cause) (short_here c ran.cause) (write_here c ran.cause ran.faults))
      (λ have ir.
      let event : Event = record { status = 7; line = packets_limit_line } in
      record {
        part = run_text script.nodes ir.run;
        printed = subst (λ (l : List ℕ). Printed (waits ++ run_text script.nodes ir.run) l Limit status now.stream c) (event_line script have.runs ir.run event ir.ends.0 ir.ends.1)
            (printed_behind (run_text script.nodes ir.run) waits waits' packets_limit_line tt Limit status now.stream mid.stream c ir.printed printed);
        body = body_event script have.runs ir.run event have.on ir.ends.1;
        is_due = record { event = event; is = event_last script have.runs ir.run event ir.ends.0 ir.ends.1; has = refl };
      })

  -- a call of the folder has failed
  read_failed : (c : SinkState) (status : Status) → Ran (Stopped stop.Read) → Printed waits' [] ReadFault status mid.stream c → ScriptEnds script workers start (after c) (seen ++ lists ∷ []) status
  read_failed c status ran printed =
      ends_here own script sound workers start now mid waits waits' left k seen under count flow at lists (Stopped stop.Read) ran c ReadFault status (λ e. absurd e) (λ other. ran.cause.1.appends) printed.told
      (ends_done (λ s. IsCauseOf (Some flow) s start (after c)) waits' ReadFault status mid.stream c printed
      (λ same. (unwritten_over c ran.cause.1 same, input_rose c ran.cause.0))
      (λ same. (unwritten_over c ran.cause.1 same, inr (input_rose c ran.cause.0))) (write_over c ran.faults ran.cause.1.appends (inr (input_rose c ran.cause.0))))
      (λ have ir. record {
        part = run_text script.nodes ir.run;
        printed = printed_behind (run_text script.nodes ir.run) waits waits' [] tt ReadFault status now.stream mid.stream c ir.printed printed;
        body = sym (pause_behind script have.runs ir.run);
        is_due = input_rose c ran.cause.0;
      })

  create_failed : (c : SinkState) (status : Status) → Ran (Stopped stop.Create) → Printed waits' [] ReadFault status mid.stream c → ScriptEnds script workers start (after c) (seen ++ lists ∷ []) status
  create_failed c status ran printed =
      let rose_of = create_rose c ran.cause.0 ran.cause.1 ran.cause.2 in
      ends_here own script sound workers start now mid waits waits' left k seen under count flow at lists (Stopped stop.Create) ran c ReadFault status (λ e. absurd e) (λ other. ran.cause.3.appends) printed.told
      (ends_done (λ s. IsCauseOf (Some flow) s start (after c)) waits' ReadFault status mid.stream c printed (λ same. (unwritten_over c ran.cause.3 same, rose_of))
      (λ same. (unwritten_over c ran.cause.3 same, inr rose_of)) (write_over c ran.faults ran.cause.3.appends (inr rose_of)))
      (λ have ir. record {
        part = run_text script.nodes ir.run;
        printed = printed_behind (run_text script.nodes ir.run) waits waits' [] tt ReadFault status now.stream mid.stream c ir.printed printed;
        body = sym (pause_behind script have.runs ir.run);
        is_due = rose_of;
      })

  append_failed : (c : SinkState) (ending : Status) → Ran (Stopped stop.Append) → Printed waits' [] WriteFault ending mid.stream c → ScriptEnds script workers start (after c) (seen ++ lists ∷ []) WriteFault
  append_failed c ending ran printed =
      let rose = output_rose c ran.cause.0 ran.cause.1 ran.cause.2 in
      ends_here own script sound workers start now mid waits waits' left k seen under count flow at lists (Stopped stop.Append) ran c WriteFault WriteFault (λ e. absurd e) (λ other. absurd (other refl)) printed.told (inr rose, inputs_over c ran.cause.3)
      (λ have ir. record {
        part = run_text script.nodes ir.run;
        printed = (ending, refl, printed_behind (run_text script.nodes ir.run) waits waits' [] tt WriteFault ending now.stream mid.stream c ir.printed printed);
        body = sym (pause_behind script have.runs ir.run);
        is_due = rose;
      })

  -- what would stand behind the packets of a flow that was stopped
  more_of : (why : FlowStop) → HaveRun script workers start now waits seen → RunOf (Stopped why) → List ℕ
  more_of why have ir = cond (goes_on ir.run) (run_end ir.run ++ replies_behind script ir.run) [] ++ ending script have.runs ir.run

  whole_of : (why : FlowStop) (have : HaveRun script workers start now waits seen) (ir : RunOf (Stopped why))
      → (waits ++ run_text script.nodes ir.run) ++ more_of why have ir ≡ waits ++ (turn_text script ir.run ++ ending script have.runs ir.run)
  unfolding more_of
  whole_of why have ir = in_parts waits (run_text script.nodes ir.run) (cond (goes_on ir.run) (run_end ir.run ++ replies_behind script ir.run) []) (ending script have.runs ir.run)

  -- the stream has failed, or memory
  print_failed : Ran (Stopped stop.Print) → ScriptEnds script workers start mid (seen ++ lists ∷ []) WriteFault
  print_failed ran =
      ends_here own script sound workers start now mid waits waits' left k seen under count flow at lists (Stopped stop.Print) ran mid.stream OutOfMemory WriteFault (λ e. absurd e) (λ other. ran.cause.1) refl
      (inl (no_append_over mid.stream ran.cause.1, rose_here mid.stream ran.cause.0), inputs_over mid.stream ran.cause.2)
      (λ have ir. record {
        part = turn_text script ir.run ++ ending script have.runs ir.run;
        printed = printed_broken (waits ++ run_text script.nodes ir.run) (more_of stop.Print have ir) (waits ++ (turn_text script ir.run ++ ending script have.runs ir.run)) OutOfMemory now.stream mid.stream
            (whole_of stop.Print have ir) ir.printed.0 ir.printed.1 ir.printed.2;
        body = body_whole script have.runs ir.run;
        is_due = tt;
      })

  memory_failed : Ran (Stopped stop.OutOfMemory) → ScriptEnds script workers start mid (seen ++ lists ∷ []) OutOfMemory
  memory_failed ran =
      ends_here own script sound workers start now mid waits waits' left k seen under count flow at lists (Stopped stop.OutOfMemory) ran mid.stream OutOfMemory OutOfMemory (λ e. absurd e) (λ other. ran.cause.0.appends) refl
      (unwritten_over mid.stream ran.cause.0 refl, inputs_over mid.stream ran.cause.1)
      (λ have ir. record {
        part = turn_text script ir.run ++ ending script have.runs ir.run;
        printed = printed_in_part (waits ++ run_text script.nodes ir.run) (more_of stop.OutOfMemory have ir) (waits ++ (turn_text script ir.run ++ ending script have.runs ir.run)) OutOfMemory now.stream mid.stream
            (whole_of stop.OutOfMemory have ir) ir.printed.told ir.printed.faults ir.printed.prefix;
        body = body_whole script have.runs ir.run;
        is_due = tt;
      })

  pub call_ends : (end : FlowEnd) (c : SinkState) (status : Status) → Ran end → Ends end c (Err status) → ScriptEnds script workers start (after c) (seen ++ lists ∷ []) status
  call_ends GoesOn c status ran ends = subst (ScriptEnds script workers start (after c) (seen ++ lists ∷ [])) (sym ends.2) (replies_fail c ends.1 ends.0 ran ends.3)
  call_ends (Broken fault) c status ran ends = broken fault c status ran ends
  call_ends TooMany c status ran ends = too_many c status ran ends
  call_ends (Stopped stop.Read) c status ran ends = read_failed c status ran ends
  call_ends (Stopped stop.Create) c status ran ends = create_failed c status ran ends
  call_ends (Stopped stop.Append) c status ran ends = subst (ScriptEnds script workers start (after c) (seen ++ lists ∷ [])) (sym ends.1) (append_failed c ends.0 ran ends.2)
  call_ends (Stopped stop.Print) c status ran ends =
      subst (λ (s : SinkState). ScriptEnds script workers start (after s) (seen ++ lists ∷ []) status) (sym ends.1) (subst (ScriptEnds script workers start mid (seen ++ lists ∷ [])) (sym ends.0) (print_failed ran))
  call_ends (Stopped stop.OutOfMemory) c status ran ends =
      subst (λ (s : SinkState). ScriptEnds script workers start (after s) (seen ++ lists ∷ []) status) (sym ends.1) (subst (ScriptEnds script workers start mid (seen ++ lists ∷ [])) (sym ends.0) (memory_failed ran))
