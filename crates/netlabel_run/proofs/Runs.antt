-- The flows of a script that have run: what is printed of them begins their report, and where they end.
use Rattle.std.proofs.Common.{◌≡◌, ◌≢◌, ◌<◌, ℕ, zero, suc, ◌+◌, ◌-◌, Bool, true, false, List, [], ◌∷◌, ◌++◌, length, map, take, Option, Some, None, refl, sym, ap, subst, ◌∙◌, append_assoc, append-nil, arith, inl, inr}
use Rattle.std.specs.Prelude.{IsTrue, All, not, is_some, if◌then◌else◌, ◌&&◌, ◌==◌}
use Rattle.std.specs.List.{concat, cons_option, list_all}
use Rattle.std.specs.Option.{option_map}
use Rattle.std.proofs.lemmas.List.Elements.{All-nil, All-cons}
use Rattle.label_commands.specs.declared.flow_lines.flow.FlowLine.{FlowLine}
use Rattle.label_commands.specs.declared.script.Script.{Script}
use Rattle.shared_tables.specs.Plan.{PlanState}
use Rattle.net_io.specs.Depot.{SameHeld}
use Rattle.call_report.specs.Report.{Folder, Versions}
use Rattle.call_report.specs.Output.{Output}
use Rattle.call_report.specs.Stages.{Stage, input_in_hand, output_in_hand}
use Rattle.call_report.specs.Lines.Fixed.{done_line}
use Rattle.script_run.specs.flow_run.Input.{flow_input}
use Rattle.script_run.specs.flow_run.Run.{FlowRun, is_judged, goes_on, run_text, run_end, run_output, output_capture}
use Rattle.label_flow.specs.flow_access.Valid.{plan_of}
use Rattle.script_run.specs.Runs.{AreRuns, AreWholeRuns, is_done, last_event}
use Rattle.script_run.specs.Report.{first_replies, replies_behind, turn_text, text_so_far, pause_text, runs_report, runs_outputs}
use Rattle.script_run.specs.Ends.{last_of, due_body, due_line}
use Rattle.call_report.specs.declared.status.Status.{Status}
use Rattle.call_report.specs.declared.status.Status.TheVariants.{Done, NoForm, WrongScript, ReadFault, WriteFault, WrongCapture, OutOfMemory, Limit}
use Rattle.call_report.specs.Report.{report_text}
use Rattle.call_report.specs.Event.{Event}
use Rattle.netlabel_run.specs.Run.{flow_stage}

-- ---- another folder with the same content

pub runs_same : (plan : PlanState) (held held' : Folder) → SameHeld held held' → (number most : ℕ) (flows : List FlowLine) (seen : Versions) (runs : List FlowRun) → AreRuns plan held' number most flows seen runs
    → AreRuns plan held number most flows seen runs
runs_same plan held held' same number most [] [] [] h = tt
runs_same plan held held' same number most (flow ∷ flows) [] [] h = tt
runs_same plan held held' same number most (flow ∷ flows) (lists ∷ seen) (run ∷ runs) h =
    (h.0, h.1, h.2 ∙ ap (flow_input number most) (same flow.input), h.3, h.4, runs_same plan held held' same (number + 1) (most - length lists) flows seen runs h.5)
runs_same plan held held' same number most [] [] (run ∷ runs) h = absurd h
runs_same plan held held' same number most [] (lists ∷ seen) runs h = absurd h
runs_same plan held held' same number most (flow ∷ flows) [] (run ∷ runs) h = absurd h
runs_same plan held held' same number most (flow ∷ flows) (lists ∷ seen) [] h = absurd h

-- the first of the flows that have run
some_taken : (n : ℕ) (seen : Versions) → 0 < length (take n seen) → 0 < length seen
some_taken zero [] some = some
some_taken (suc n) [] some = some
some_taken n (lists ∷ seen) some = omega arith

pub runs_front : (plan : PlanState) (held : Folder) (k number most : ℕ) (flows : List FlowLine) (seen : Versions) (runs : List FlowRun) → AreRuns plan held number most flows seen runs
    → AreRuns plan held number most flows (take k seen) (take k runs)
runs_front plan held zero number most [] seen runs h = tt
runs_front plan held zero number most (flow ∷ flows) seen runs h = tt
runs_front plan held (suc k) number most [] [] [] h = tt
runs_front plan held (suc k) number most (flow ∷ flows) [] [] h = tt
runs_front plan held (suc k) number most (flow ∷ flows) (lists ∷ seen) (run ∷ runs) h =
    (h.0, h.1, h.2, h.3, λ some. h.4 (some_taken k seen some), runs_front plan held k (number + 1) (most - length lists) flows seen runs h.5)
runs_front plan held (suc k) number most [] [] (run ∷ runs) h = absurd h
runs_front plan held (suc k) number most [] (lists ∷ seen) runs h = absurd h
runs_front plan held (suc k) number most (flow ∷ flows) [] (run ∷ runs) h = absurd h
runs_front plan held (suc k) number most (flow ∷ flows) (lists ∷ seen) [] h = absurd h

-- ---- the report begins with what was printed

-- what comes so far is a beginning of the flows with all that comes behind each
so_far_begins : (script : Script) (runs : List FlowRun) (more : List ℕ) → (rest : List ℕ) × (text_so_far script runs ++ rest ≡ concat (map (turn_text script) runs) ++ more)
so_far_begins script [] more = (more, refl)
so_far_begins script (run ∷ []) more =
    let text = run_text script.nodes run in
    let behind : List ℕ = if goes_on run then run_end run ++ replies_behind script run else [] in
    (behind ++ more, sym (append_assoc text behind more) ∙ ap (λ t. t ++ more) (sym (append-nil (text ++ behind))))
so_far_begins script (run ∷ next ∷ runs) more =
    let turn = turn_text script run in
    let begins = so_far_begins script (next ∷ runs) more in (
      begins.0,
      append_assoc turn (text_so_far script (next ∷ runs)) begins.0
          ∙ ap (λ t. turn ++ t) begins.1
          ∙ sym (append_assoc turn (concat (map (turn_text script) (next ∷ runs))) more),
    )

pause_begins : (script : Script) (runs : List FlowRun) → (rest : List ℕ) × (pause_text script runs ++ rest ≡ (runs_report script runs).body)
pause_begins script [] = ((runs_report script []).body, refl)
pause_begins script (run ∷ runs) =
    let done : List ℕ = if is_done script (run ∷ runs) then done_line else [] in
    let begins = so_far_begins script (run ∷ runs) done in
    (begins.0, append_assoc (first_replies script) (text_so_far script (run ∷ runs)) begins.0 ∙ ap (λ t. first_replies script ++ t) begins.1)

-- what is printed in front of an event begins the body of the report
pub body_begins : (script : Script) (runs : List FlowRun) (due : Status) → (rest : List ℕ) × (due_body script runs due ++ rest ≡ (runs_report script runs).body)
body_begins script runs ReadFault = pause_begins script runs
body_begins script runs WriteFault = pause_begins script runs
body_begins script runs Done = ([], append-nil (runs_report script runs).body)
body_begins script runs NoForm = ([], append-nil (runs_report script runs).body)
body_begins script runs WrongScript = ([], append-nil (runs_report script runs).body)
body_begins script runs WrongCapture = ([], append-nil (runs_report script runs).body)
body_begins script runs OutOfMemory = ([], append-nil (runs_report script runs).body)
body_begins script runs Limit = ([], append-nil (runs_report script runs).body)

-- with an event's line it begins the report
without_line : (script : Script) (runs : List FlowRun) (body : List ℕ) → (rest : List ℕ) × (body ++ rest ≡ (runs_report script runs).body) → (rest : List ℕ) × ((body ++ []) ++ rest ≡ report_text (runs_report script runs))
without_line script runs body begins =
    let last = (runs_report script runs).last in
    (begins.0 ++ last, ap (λ t. t ++ (begins.0 ++ last)) (append-nil body) ∙ sym (append_assoc body begins.0 last) ∙ ap (λ t. t ++ last) begins.1)

pub report_begins : (script : Script) (runs : List FlowRun) (due : Status) → (rest : List ℕ) × ((due_body script runs due ++ due_line script runs due) ++ rest ≡ report_text (runs_report script runs))
report_begins script runs WrongCapture = ([], append-nil (report_text (runs_report script runs)))
report_begins script runs Limit = ([], append-nil (report_text (runs_report script runs)))
report_begins script runs ReadFault = without_line script runs (due_body script runs ReadFault) (body_begins script runs ReadFault)
report_begins script runs WriteFault = without_line script runs (due_body script runs WriteFault) (body_begins script runs WriteFault)
report_begins script runs Done = without_line script runs (due_body script runs Done) (body_begins script runs Done)
report_begins script runs NoForm = without_line script runs (due_body script runs NoForm) (body_begins script runs NoForm)
report_begins script runs WrongScript = without_line script runs (due_body script runs WrongScript) (body_begins script runs WrongScript)
report_begins script runs OutOfMemory = without_line script runs (due_body script runs OutOfMemory) (body_begins script runs OutOfMemory)

-- ---- where they end

nope : IsTrue false → ⊥
nope h = cc

no_event : (a b : Bool) (event : Option Event) → IsTrue (a && b && not (is_some event)) → event ≡ None
no_event a b None h = refl
no_event true true (Some event) h = absurd (nope h)
no_event true false (Some event) h = absurd (nope h)
no_event false true (Some event) h = absurd (nope h)
no_event false false (Some event) h = absurd (nope h)

first_true : (a b c : Bool) → IsTrue (a && b && c) → IsTrue a
first_true true b c h = refl
first_true false true c h = h
first_true false false c h = h

and_first : (a b : Bool) → IsTrue (a && b) → IsTrue a
and_first true b h = refl
and_first false b h = h

and_second : (a b : Bool) → IsTrue (a && b) → IsTrue b
and_second true b h = h
and_second false b h = absurd (nope h)

judged_of : (run : FlowRun) → IsTrue (goes_on run) → IsTrue (is_judged run)
judged_of run h = first_true (is_judged run) (is_some run.input.format) (not (is_some run.input.event)) h

if_none : (b : Bool) (event : Option Event) → event ≡ None → (if b then event else None) ≡ None
if_none true event is = is
if_none false event is = refl

all_go_on : (runs : List FlowRun) → IsTrue (list_all goes_on runs) → last_event runs ≡ None
all_go_on [] h = refl
all_go_on (run ∷ []) h =
    if_none (is_judged run) run.input.event (no_event (is_judged run) (is_some run.input.format) run.input.event (and_first (goes_on run) true h))
all_go_on (run ∷ next ∷ runs) h = all_go_on (next ∷ runs) (and_second (goes_on run) (list_all goes_on (next ∷ runs)) h)

done_goes_on : (script : Script) (runs : List FlowRun) → IsTrue (is_done script runs) → IsTrue (list_all goes_on runs)
done_goes_on script runs h = and_second (length runs == length script.flows) (list_all goes_on runs) h

-- behind the last flow there is no event
pub done_has_no_event : (script : Script) (runs : List FlowRun) → IsTrue (is_done script runs) → last_event runs ≡ None
done_has_no_event script runs h = all_go_on runs (done_goes_on script runs h)

-- the last of them is judged to its end
abbrev LastIsJudged : List FlowRun → Type 0
LastIsJudged [] = Unit {0}
LastIsJudged (run ∷ []) = IsTrue (is_judged run)
LastIsJudged (run ∷ next ∷ runs) = LastIsJudged (next ∷ runs)

if_some : (b : Bool) (event : Option Event) (is : Event) → (if b then event else None) ≡ Some is → IsTrue b
if_some true event is h = refl
if_some false event is h = absurd cc

event_judged : (runs : List FlowRun) (event : Event) → last_event runs ≡ Some event → LastIsJudged runs
event_judged [] event is = tt
event_judged (run ∷ []) event is = if_some (is_judged run) run.input.event event is
event_judged (run ∷ next ∷ runs) event is = event_judged (next ∷ runs) event is

done_judged : (runs : List FlowRun) → IsTrue (list_all goes_on runs) → LastIsJudged runs
done_judged [] h = tt
done_judged (run ∷ []) h = judged_of run (and_first (goes_on run) true h)
done_judged (run ∷ next ∷ runs) h = done_judged (next ∷ runs) (and_second (goes_on run) (list_all goes_on (next ∷ runs)) h)

none_behind : (plan : PlanState) (held : Folder) (number most : ℕ) (run : FlowRun) (runs : List FlowRun) (flows : List FlowLine) → AreRuns plan held number most flows [] (run ∷ runs) → ⊥
none_behind plan held number most run runs [] h = h
none_behind plan held number most run runs (flow ∷ flows) h = h

some_behind : (plan : PlanState) (held : Folder) (number most : ℕ) (lists : List (List ℕ)) (seen : Versions) (flows : List FlowLine) → AreRuns plan held number most flows (lists ∷ seen) [] → ⊥
some_behind plan held number most lists seen [] h = h
some_behind plan held number most lists seen (flow ∷ flows) h = h

all_judged : (plan : PlanState) (held : Folder) (number most : ℕ) (flows : List FlowLine) (seen : Versions) (runs : List FlowRun) → AreRuns plan held number most flows seen runs → LastIsJudged runs
    → All (λ (run : FlowRun). IsTrue (is_judged run)) runs
all_judged plan held number most flows [] [] h last = All-nil (λ (run : FlowRun). IsTrue (is_judged run))
all_judged plan held number most (flow ∷ flows) (lists ∷ []) (run ∷ []) h last = All-cons (λ (run : FlowRun). IsTrue (is_judged run)) run [] last (All-nil (λ (run : FlowRun). IsTrue (is_judged run)))
all_judged plan held number most (flow ∷ flows) (lists ∷ more ∷ seen) (run ∷ next ∷ runs) h last =
    All-cons (λ (run : FlowRun). IsTrue (is_judged run)) run (next ∷ runs) (judged_of run (h.4 (omega arith)))
    (all_judged plan held (number + 1) (most - length lists) flows (more ∷ seen) (next ∷ runs) h.5 last)
all_judged plan held number most (flow ∷ flows) (lists ∷ []) (run ∷ next ∷ runs) h last = absurd (none_behind plan held (number + 1) (most - length lists) next runs flows h.5)
all_judged plan held number most (flow ∷ flows) (lists ∷ more ∷ seen) (run ∷ []) h last = absurd (some_behind plan held (number + 1) (most - length lists) more seen flows h.5)
all_judged plan held number most [] [] (run ∷ runs) h last = absurd h
all_judged plan held number most [] (lists ∷ seen) runs h last = absurd h
all_judged plan held number most (flow ∷ flows) [] (run ∷ runs) h last = absurd h
all_judged plan held number most (flow ∷ flows) (lists ∷ seen) [] h last = absurd h

-- nothing is left out where all flows have run to their ends
pub done_is_whole : (script : Script) (held : Folder) (number most : ℕ) (seen : Versions) (runs : List FlowRun) → AreRuns (plan_of script) held number most script.flows seen runs → IsTrue (is_done script runs)
    → AreWholeRuns script runs
done_is_whole script held number most seen runs are done =
    record { judged = all_judged (plan_of script) held number most script.flows seen runs are (done_judged runs (done_goes_on script runs done)); last = inl done }

-- or up to an event
pub event_is_whole : (script : Script) (held : Folder) (number most : ℕ) (seen : Versions) (runs : List FlowRun) (event : Event) → AreRuns (plan_of script) held number most script.flows seen runs → last_event runs ≡ Some event
    → AreWholeRuns script runs
event_is_whole script held number most seen runs event are is =
    record { judged = all_judged (plan_of script) held number most script.flows seen runs are (event_judged runs event is); last = inr (rw is refl) }

-- ---- the flow in hand

pub input_of_last : (flows : List FlowLine) (stage : Stage) (of : FlowLine) → last_of flows ≡ Some of → input_in_hand (stage ∷ map flow_stage flows) ≡ Some of.input
input_of_last [] stage of is = absurd cc
input_of_last (flow ∷ []) stage of is = let same : flow ≡ of = cc in ap (λ (f : FlowLine). Some f.input) same
input_of_last (flow ∷ next ∷ flows) stage of is = input_of_last (next ∷ flows) (flow_stage flow) of is

pub output_of_last : (flows : List FlowLine) (stage : Stage) (of : FlowLine) → last_of flows ≡ Some of → output_in_hand (stage ∷ map flow_stage flows) ≡ of.output
output_of_last [] stage of is = absurd cc
output_of_last (flow ∷ []) stage of is = let same : flow ≡ of = cc in ap (λ (f : FlowLine). f.output) same
output_of_last (flow ∷ next ∷ flows) stage of is = output_of_last (next ∷ flows) (flow_stage flow) of is

-- ---- outputs

-- what no stage makes that was begun, no flow makes that has run
pub none_makes : (plan : PlanState) (held : Folder) (name : List ℕ) (number most : ℕ) (flows : List FlowLine) (seen : Versions) (runs : List FlowRun) → AreRuns plan held number most flows seen runs
    → All (λ (stage : Stage). stage.output ≢ Some name) (map flow_stage (take (length seen) flows)) → All (λ (run : FlowRun). run.flow.output ≢ Some name) runs
none_makes plan held name number most [] [] [] h none = All-nil (λ (run : FlowRun). run.flow.output ≢ Some name)
none_makes plan held name number most (flow ∷ flows) [] [] h none = All-nil (λ (run : FlowRun). run.flow.output ≢ Some name)
none_makes plan held name number most (flow ∷ flows) (lists ∷ seen) (run ∷ runs) h none =
    All-cons (λ (r : FlowRun). r.flow.output ≢ Some name) run runs (subst (λ (f : FlowLine). f.output ≢ Some name) (sym h.1) (none 0 (flow_stage flow) (omega arith)))
    (none_makes plan held name (number + 1) (most - length lists) flows seen runs h.5 (λ k d less. none (suc k) d (omega (arith, less))))
none_makes plan held name number most [] [] (run ∷ runs) h none = absurd h
none_makes plan held name number most [] (lists ∷ seen) runs h none = absurd h
none_makes plan held name number most (flow ∷ flows) [] (run ∷ runs) h none = absurd h
none_makes plan held name number most (flow ∷ flows) (lists ∷ seen) [] h none = absurd h

cons_rest : (P : Output → Type 0) (o : Option Output) (os : List Output) → All P (cons_option o os) → All P os
cons_rest P None os all = all
cons_rest P (Some o) os all = λ k d less. all (suc k) d (omega (arith, less))

-- a name that is none of what they make is no output of theirs
pub none_of_theirs : (runs : List FlowRun) (name : List ℕ) → All (λ (output : Output). output.name ≢ name) (runs_outputs runs) → All (λ (run : FlowRun). run.flow.output ≢ Some name) runs
none_of_theirs [] name all = All-nil (λ (run : FlowRun). run.flow.output ≢ Some name)
none_of_theirs (run ∷ runs) name all =
    let P : Output → Type 0 = λ output. output.name ≢ name in
    let made = λ (output : Option (List ℕ)). option_map (λ n. (let o : Output = record { name = n; octets = output_capture run } in o)) output in
    All-cons (λ (r : FlowRun). r.flow.output ≢ Some name) run runs
    (λ e.
    let here : All P (cons_option (Some (record { name = name; octets = output_capture run })) (runs_outputs runs)) = subst (λ (o : Option Output). All P (cons_option o (runs_outputs runs))) (ap made e) all in
    here 0 (record { name = name; octets = None }) (omega arith) refl)
    (none_of_theirs runs name (cons_rest P (run_output run) (runs_outputs runs) all))
