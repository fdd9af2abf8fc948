-- The audit of a report that a run has printed.
use Rattle.std.proofs.Common.{◌≡◌, ◌⊎◌, ℕ, ◌+◌, ◌-◌, Bool, true, false, nat_lt, List, [], ◌∷◌, length, cond, Option, Some, None, Result, Ok, Err, refl, sym, ap, subst, ◌∙◌, arith, inl, inr}
use Rattle.std.specs.Prelude.{IsTrue, IsSome, MatchBool, All}
use Rattle.std.proofs.lemmas.Bool.{ltb-true}
use Rattle.std.proofs.lemmas.List.{append-nil}
use Rattle.std.proofs.lemmas.Option.{none-some, same_Some}
use Rattle.label_commands.specs.declared.flow_lines.flow.FlowLine.{FlowLine}
use Rattle.label_commands.specs.declared.script.Script.{Script}
use Rattle.label_commands.specs.declared.stop.ScriptStop.{ScriptStop}
use Rattle.captures.specs.declared.format.CaptureFormat.{CaptureFormat}
use Rattle.call_report.specs.CallEnds.{CallEnds, PrintsReport, IsWritten}
use Rattle.call_report.specs.Event.{Event, packets_limit}
use Rattle.call_report.specs.Outside.{Outside}
use Rattle.call_report.specs.Report.{Folder, Versions, Report, report_text, late_report}
use Rattle.label_flow.specs.flow_access.Valid.{plan_of}
use Rattle.script_run.specs.flow_run.Input.{FlowInput, flow_input}
use Rattle.script_run.specs.flow_run.Run.{FlowRun, is_judged}
use Rattle.script_run.specs.Runs.{AreRuns, AreWholeRuns, IsLawfulRun, FlowsStatus, StatusOr, is_done, last_event}
use Rattle.script_run.proofs.Law.{runs_are_determined, runs_know_their_inputs_alone, done_flows_have_status_0, events_have_their_status}
use Rattle.call_report.specs.script_input.ScriptFile.{ByScript, ByAnswer, script_read, script_stop_status}
use Rattle.call_report.specs.Lines.Script.{script_stop_line}
use Rattle.label_audit.specs.Good.{IsReport}
use Rattle.label_audit.proofs.Law.{whole_input}
use Rattle.netlabel_audit.specs.declared.asked.Audit.{Audit}
use Rattle.netlabel_audit.specs.Inputs.{InputsEnd, all_whole, inputs_end}
use Rattle.netlabel_audit.specs.Lines.{yes_line, report_limit_line}
use Rattle.netlabel_audit.specs.OfRun.{HasEndedWith0, IsAuditOf, IsAnsweredYes}
use Rattle.netlabel_audit.specs.Outcome.{AuditOutcome, answer_told, decided_by, nothing_due, report_limit, ByLines, all_good, first_bad, ByInputs, ByReport, IsAuditOutcome}
use Rattle.netlabel_audit.specs.Says.{audit_says}
use Rattle.netlabel_audit.proofs.Captures.{goes_behind}

-- ---- a run that ended with 0 has come to the end of each flow

either_status : (event : Option Event) (format : Option CaptureFormat) (A B : Type 0) (one other : ℕ) → StatusOr event format A one → StatusOr event format B other → (A → B → one ≡ other) → one ≡ other
either_status (Some event) format A B one other a b behind = a ∙ sym b
either_status None (Some format) A B one other a b behind = behind a b
either_status None None A B one other a b behind = absurd a

one_status : (held : Folder) (number most : ℕ) (flows : List FlowLine) (one other : ℕ) → FlowsStatus held number most flows one → FlowsStatus held number most flows other → one ≡ other
one_status held number most [] one other a b = a ∙ sym b
one_status held number most (flow ∷ flows) one other a b =
    let input = flow_input number most (held flow.input) in
    let Behind = FlowsStatus held (number + 1) (most - length input.frames) flows in
    either_status input.event input.format (Behind one) (Behind other) one other a b (one_status held (number + 1) (most - length input.frames) flows one other)

-- an event of a capture has a status of its own
never_0 : (number most : ℕ) (file : Option (List ℕ)) (event : Event) → (flow_input number most file).event ≡ Some event → 0 ≡ event.status → ⊥
never_0 number most file event is zero =
    let input = flow_input number most file in
    let due : StatusOr input.event input.format (Unit {0}) 0 = subst (λ (e : Option Event). StatusOr e input.format (Unit {0}) 0) (sym is) zero in
    none-some event (sym (whole_input number most file (Unit {0}) due).event ∙ is)

last_not_0 : (script : Script) (held : Folder) (number most : ℕ) (flows : List FlowLine) (seen : Versions) (runs : List FlowRun) (event : Event) → AreRuns (plan_of script) held number most flows seen runs
    → last_event runs ≡ Some event → 0 ≡ event.status → ⊥
last_not_0 script held number most flows seen [] event are is zero = none-some event is
last_not_0 script held number most [] [] (run ∷ runs) event are is zero = are
last_not_0 script held number most [] (lists ∷ seen) (run ∷ runs) event are is zero = are
last_not_0 script held number most (flow ∷ flows) [] (run ∷ runs) event are is zero = are
last_not_0 script held number most (flow ∷ flows) (lists ∷ seen) (run ∷ []) event are is zero =
    never_0 number most (held flow.input) event (ap (λ (i : FlowInput). i.event) (sym are.2) ∙ by_test (is_judged run) is) zero
  where
    by_test : (b : Bool) → cond b run.input.event None ≡ Some event → run.input.event ≡ Some event
    by_test true e = e
    by_test false e = absurd (none-some event e)
last_not_0 script held number most (flow ∷ flows) (lists ∷ seen) (run ∷ next ∷ runs) event are is zero =
    last_not_0 script held (number + 1) (most - length lists) flows seen (next ∷ runs) event are.5 is zero

some_event : (found : Option Event) → IsSome found → (event : Event) × (found ≡ Some event)
some_event (Some event) some = (event, refl)
some_event None some = absurd (let no : false ≡ true = some in cc)

all_done : (script : Script) (held : Folder) (seen : Versions) (runs : List FlowRun) → FlowsStatus held 1 packets_limit script.flows 0 → AreRuns (plan_of script) held 1 packets_limit script.flows seen runs
    → IsTrue (is_done script runs) ⊎ IsSome (last_event runs) → IsTrue (is_done script runs)
all_done script held seen runs due are (inl done) = done
all_done script held seen runs due are (inr some) =
    let last = some_event (last_event runs) some in
    absurd (last_not_0 script held 1 packets_limit script.flows seen runs last.0 are last.1
    (one_status held 1 packets_limit script.flows 0 last.0.status due (events_have_their_status script held seen runs last.0 are last.1)))

-- so what it has printed is a whole report, also over another folder with the same inputs
is_report : (script : Script) (workers : ℕ) (ran held : Folder) (text : List ℕ) → HasEndedWith0 script workers ran text → All (λ (flow : FlowLine). ran flow.input ≡ held flow.input) script.flows
    → IsReport script workers held text
is_report script workers ran held text run inputs =
    let plan = plan_of script in
    let runs = run.report.0 in
    let lawful_same : run.lawful.0 ≡ runs = runs_are_determined plan ran 1 packets_limit script.flows run.seen run.lawful.0 runs run.lawful.1 run.report.1 in
    let whole_same : run.whole.0 ≡ runs = runs_are_determined plan ran 1 packets_limit script.flows run.seen run.whole.0 runs run.whole.1 run.report.1 in
    record {
      seen = run.seen;
      runs = runs;
      are = runs_know_their_inputs_alone plan ran held 1 packets_limit script.flows run.seen runs inputs run.report.1;
      lawful = subst (λ (rs : List FlowRun). All (IsLawfulRun script workers) rs) lawful_same run.lawful.2;
      done = all_done script ran run.seen runs run.due run.report.1 (subst (λ (rs : List FlowRun). AreWholeRuns script rs) whole_same run.whole.2).last;
      prints = run.report.2;
    }

-- status 0 is due of whole captures alone
pub whole_of_0 : (held : Folder) (number most : ℕ) (flows : List FlowLine) → FlowsStatus held number most flows 0 → inputs_end held number most flows ≡ all_whole
whole_of_0 held number most [] due = refl
whole_of_0 held number most (flow ∷ flows) due =
    let input = flow_input number most (held flow.input) in
    let told = whole_input number most (held flow.input) (FlowsStatus held (number + 1) (most - length input.frames) flows 0) due in
    goes_behind input.event input.format (inputs_end held (number + 1) (most - length input.frames) flows) told.event told.format
    ∙ whole_of_0 held (number + 1) (most - length input.frames) flows told.rest

-- ---- what an audit of it comes to

-- by whether it is too long
abbrev comes_to : Bool → AuditOutcome
comes_to true = decided_by 7 report_limit_line
comes_to false = answer_told 0 yes_line

by_script : (file : List ℕ) (held : Option (List ℕ)) (script : Script) (absent : Type 0) (refused : ScriptStop → Type 0) (read : Script → Type 0) → ByScript file held ⊥ (λ stop. ⊥) (λ own. own ≡ script)
    → ByScript file held absent refused read → read script
by_script file None script absent refused read own has = absurd own
by_script file (Some text) script absent refused read own has = by_answer (script_read file text) own has where
  by_answer : (answer : Result Script ScriptStop) → ByAnswer answer (λ stop. ⊥) (λ own. own ≡ script) → ByAnswer answer refused read → read script
  by_answer (Err stop) own has = absurd own
  by_answer (Ok other) own has = subst read own has

module _ (script : Script) (workers : ℕ) (held : Folder) (text : List ℕ) (report : IsReport script workers held text) where
  is_yes : (outcome : AuditOutcome) → ByLines script workers held text outcome → outcome ≡ answer_told 0 yes_line
  is_yes outcome (all_good is) = refl
  is_yes outcome (first_bad line bad) = absurd (bad.other report)

  by_length : (long : Bool) (outcome : AuditOutcome)
      → MatchBool long (outcome ≡ decided_by 7 report_limit_line) (ByInputs script workers held text (inputs_end held 1 packets_limit script.flows) outcome) → outcome ≡ comes_to long
  by_length true outcome is = is
  by_length false outcome is =
      let status = done_flows_have_status_0 script held report.seen report.runs report.are report.done in
      is_yes outcome (subst (λ (end : InputsEnd). ByInputs script workers held text end outcome) (whole_of_0 held 1 packets_limit script.flows status) is)

module _ (asked : Audit) (script : Script) (ran : Folder) (text : List ℕ) (before after : Outside) (status : ℕ) (seen : Versions) (run : HasEndedWith0 script asked.workers ran text)
    (of : IsAuditOf asked script ran text before.folder) (ends : CallEnds audit_says (Some asked) before after status seen) where
  abbrev held : Folder
  held = before.folder.held

  abbrev long : Bool
  long = nat_lt report_limit (length text)

  outcome_is : (outcome : AuditOutcome) → IsAuditOutcome asked held outcome → outcome ≡ comes_to long
  outcome_is outcome is =
      let due = by_script asked.script (held asked.script) script (outcome ≡ nothing_due) (λ stop. outcome ≡ decided_by (script_stop_status stop) (script_stop_line stop))
      (λ own. ByReport own asked.workers held (held asked.report) outcome) of.read is in
      by_length script asked.workers held text (is_report script asked.workers ran held text run of.inputs) long outcome
      (subst (λ (o : Option (List ℕ)). ByReport script asked.workers held o outcome) of.report due)

  answered : (is_long : Bool) → long ≡ is_long → (outcome : AuditOutcome) → outcome ≡ comes_to is_long → outcome.status ≡ Some status → IsAnsweredYes text before after status
  answered true is outcome same due =
      let seven : Some 7 ≡ Some status = sym (ap (λ (o : AuditOutcome). o.status) same) ∙ due in
      inr (inr (sym (same_Some 7 status seven), ltb-true report_limit (length text) is))
  answered false is outcome same due =
      let zero : Some 0 ≡ Some status = sym (ap (λ (o : AuditOutcome). o.status) same) ∙ due in
      let ended : status ≡ 0 = sym (same_Some 0 status zero) in
      inl (ended, λ stream. printed ended ((ends.prints (λ reads. of.told)).whole stream (λ refused. omega (arith, ended, refused))))
    where
      printed : status ≡ 0 → ((report : Report) × (audit_says (Some asked)).report held seen report × PrintsReport report before after status) → IsWritten yes_line before after
      printed ended (report, has, prints) =
          let told : report ≡ late_report yes_line [] = sym has.2 ∙ ap (λ (o : AuditOutcome). o.report) (outcome_is has.0 has.1 ∙ ap comes_to is) in
          elim prints [
            | inl all ↦ subst (λ (t : List ℕ). IsWritten t before after) (ap report_text told ∙ append-nil yes_line) all.1
            | inr line ↦ absurd (line.0 ended)
          ]

  pub is_answered : IsAnsweredYes text before after status
  is_answered = elim (ends.ends.due of.told) [
    | inl due ↦ answered long refl due.0 (outcome_is due.0 due.1) due.2
    | inr refused ↦ inr (inl refused)
  ]
