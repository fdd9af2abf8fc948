-- How a call ends before its capture, by its script, and what it goes by after that.
use Rattle.std.proofs.Common.{◌≡◌, ℕ, Bool, true, false, List, [], Option, Some, None, Result, Ok, Err, refl, sym, ap, subst, ◌∙◌, arith, inl, inr}
use Rattle.std.specs.Prelude.{IsTrue, IsSome, MatchBool}
use Rattle.net_io.specs.Depot.{DepotState}
use Rattle.net_io.specs.Faults.{SameCounts}
use Rattle.net_io.specs.Sink.{SinkState}
use Rattle.doi_table.specs.declared.plan.DoiPlan.{DoiPlan}
use Rattle.node_tables.specs.Tables.{TableState}
use Rattle.label_commands.specs.declared.script.Script.{Script}
use Rattle.label_commands.specs.declared.stop.ScriptStop.{ScriptStop}
use Rattle.label_commands.specs.declared.stop.ScriptStop.TheVariants as stop
use Rattle.call_report.specs.declared.status.Status.{Status}
use Rattle.call_report.specs.declared.status.Status.TheVariants.{WrongScript, Limit}
use Rattle.call_report.specs.CallEnds.{CallEnds, HasBegun}
use Rattle.call_report.specs.Lines.Script.{script_stop_line}
use Rattle.call_report.specs.Outside.{Outside, IsOnlyRead}
use Rattle.call_report.specs.Printing.{Printed}
use Rattle.call_report.specs.Report.{Folder}
use Rattle.call_report.specs.Status.{status_number}
use Rattle.call_report.proofs.Law.{Keeps}
use Rattle.call_report.specs.script_input.ScriptFile.{script_read, ByAnswer, ByScript, script_stop_status}
use Rattle.call_report.proofs.script_input.Law.{in_file, content_of, content_holds, content_told}
use Rattle.call_report.specs.script_input.Ends.{HasScript, HasNoScript, refused as text_refused, unread as text_unread, without_memory as text_without_memory, IsScriptEnd, script_due}
use Rattle.ripso_border_run.specs.declared.task.Task.{Task}
use Rattle.ripso_border_run.specs.Definition.{last_tables, first_definition, border_definition}
use Rattle.ripso_border_run.specs.Lines.{name_twice_line, no_doi_line}
use Rattle.ripso_border_run.specs.Outcome.{Outcome, refused, absent, ByDefinition, ByTask, IsOutcome, is_named_twice}
use Rattle.ripso_border_run.specs.Says.{MayCross, border_says, capture_stages}
use Rattle.ripso_border_run.specs.inside.Course.{IsPlanned, IsUnmoved}
use Rattle.ripso_border_run.proofs.Stopping.{asked, script_stages, keeps_script}
use Rattle.ripso_border_run.proofs.Early.{early_unread, early_short, early_quiet, early_event}

module _ (task : Task) (held : Folder) (text : List ℕ) (holds : held task.script ≡ Some text) where
  abbrev By : Outcome → Option (List ℕ) → Type 0
  By outcome file = ByScript task.script file (outcome ≡ absent) (λ why. outcome ≡ refused (script_stop_status why) (script_stop_line why)) (λ script. ByTask task (held task.input) script outcome)

  abbrev Of : Outcome → Result Script ScriptStop → Type 0
  Of outcome read = ByAnswer read (λ why. outcome ≡ refused (script_stop_status why) (script_stop_line why)) (λ script. ByTask task (held task.input) script outcome)

  pub goes_in : (outcome : Outcome) (read : Result Script ScriptStop) → script_read task.script text ≡ read → Of outcome read → IsOutcome task held outcome
  goes_in outcome read is has = subst (By outcome) (sym holds) (subst (Of outcome) (sym is) has)

  pub goes_out : (outcome : Outcome) (read : Result Script ScriptStop) → script_read task.script text ≡ read → IsOutcome task held outcome → Of outcome read
  goes_out outcome read is has = subst (Of outcome) is (subst (By outcome) holds has)

module _ (task : Task) (before : Outside) (text : List ℕ) (script : Script) (holds : IsTrue before.folder.tells → before.folder.held task.script ≡ Some text) (is : script_read task.script text ≡ Ok script) where
  abbrev Chosen : Outcome → Bool → Type 0
  Chosen outcome twice = MatchBool twice (outcome ≡ refused 2 name_twice_line) (ByDefinition task (before.folder.held task.input) (border_definition script task.doi) outcome)

  pub twice_is : is_named_twice task ≡ true → IsTrue before.folder.tells → IsOutcome task before.folder.held (refused 2 name_twice_line)
  twice_is twice told = goes_in task before.folder.held text (holds told) (refused 2 name_twice_line) (Ok script) is (subst (Chosen (refused 2 name_twice_line)) (sym twice) refl)

  module _ (once : is_named_twice task ≡ false) where
    abbrev Defined : Outcome → Option DoiPlan → Type 0
    Defined outcome plan = ByDefinition task (before.folder.held task.input) plan outcome

    pub undefined_is : border_definition script task.doi ≡ None → IsTrue before.folder.tells → IsOutcome task before.folder.held (refused 2 no_doi_line)
    undefined_is none told =
        goes_in task before.folder.held text (holds told) (refused 2 no_doi_line) (Ok script) is
        (subst (Chosen (refused 2 no_doi_line)) (sym once) (subst (Defined (refused 2 no_doi_line)) (sym none) refl))

    -- by what the folder tells, or over some content
    begun : (plan : DoiPlan) → border_definition script task.doi ≡ Some plan → HasBegun (border_says (asked task)) before.folder [] (capture_stages task)
    begun plan some =
        let content = content_of before.folder.tells before.folder.held text in
        let holds_text = content_holds before.folder.tells before.folder.held text task.script holds in
        let defined : IsSome (border_definition script task.doi) = subst (λ (o : Option DoiPlan). IsSome o) (sym some) refl in
        let may : MayCross task content = in_file task.script (content task.script) text (Ok script) holds_text is ⊥ (λ why. ⊥) (λ read. (is_named_twice task ≡ false) × IsSome (border_definition read task.doi)) (once, defined) in
        record { content = content; told = content_told before.folder.tells before.folder.held text; are = (refl, inr (may, refl)) }

    pub planned : (plan : DoiPlan) → border_definition script task.doi ≡ Some plan → IsPlanned task plan before
    planned plan some = record {
      begun = begun plan some;
      leads = λ told outcome by. goes_in task before.folder.held text (holds told) outcome (Ok script) is (subst (Chosen outcome) (sym once) (subst (Defined outcome) (sym some) by));
      only = λ told outcome has. subst (Defined outcome) some (subst (Chosen outcome) once (goes_out task before.folder.held text (holds told) outcome (Ok script) is has));
    }

-- the definition that was found, at the first of the nodes that the commands leave
pub definition_is : (script : Script) (doi : ℕ) {number : ℕ} {nodes : List TableState} {found : Option DoiPlan} → nodes ≡ last_tables script → number ≡ doi → found ≡ first_definition nodes number
    → border_definition script doi ≡ found
definition_is script doi {number} {nodes} {found} are same is =
    ap (λ (n : List TableState). first_definition n doi) (sym are) ∙ ap (λ (d : ℕ). first_definition nodes d) (sym same) ∙ sym is

-- ---- there is no script

module _ (task : Task) (before after : Outside) (reads : IsOnlyRead before.folder after.folder) where
  keeps : after.stream.tells ≡ before.stream.tells → Keeps (border_says (asked task)) before after (script_stages task)
  keeps stream = keeps_script task before after reads.told stream reads.creates reads.appends

  refused_is : (text : List ℕ) (why : ScriptStop) → (IsTrue before.folder.tells → before.folder.held task.script ≡ Some text) → script_read task.script text ≡ Err why
      → IsTrue before.folder.tells → IsOutcome task before.folder.held (refused (script_stop_status why) (script_stop_line why))
  refused_is text why holds is told = goes_in task before.folder.held text (holds told) (refused (script_stop_status why) (script_stop_line why)) (Err why) is refl

  by_stop : (text : List ℕ) (why : ScriptStop) (status : Status) → (IsTrue before.folder.tells → before.folder.held task.script ≡ Some text) → script_read task.script text ≡ Err why
      → SameCounts before.folder.reads after.folder.reads → Printed [] (script_stop_line why) (script_due why) status before.stream after.stream → CallEnds border_says (asked task) before after (status_number status) []
  by_stop text (stop.Fault fault) status holds is counts printed =
      early_event task before after (script_stages task) keeps reads.kept reads.appends WrongScript status (script_stop_line (stop.Fault fault)) (inr (inl refl)) (λ e. omega (arith, e), λ e. omega (arith, e), λ e. omega (arith, e))
      (λ e. omega (arith, e)) (λ e. omega (arith, e)) (refused_is text (stop.Fault fault) holds is) counts reads.creates printed
  by_stop text (stop.Limit what number) status holds is counts printed =
      early_event task before after (script_stages task) keeps reads.kept reads.appends Limit status (script_stop_line (stop.Limit what number)) (inr (inr (inr (inr refl)))) (λ e. omega (arith, e), λ e. omega (arith, e), λ e. omega (arith, e))
      (λ e. omega (arith, e)) (λ e. omega (arith, e)) (refused_is text (stop.Limit what number) holds is) counts reads.creates printed
  by_stop text stop.OutOfMemory status holds is counts printed = early_quiet task before after (script_stages task) keeps reads.kept reads.appends status counts reads.creates printed

  by_cause : (status : Status) → HasNoScript task.script before after status → CallEnds border_says (asked task) before after (status_number status) []
  by_cause status (text_refused text why holds is counts printed) = by_stop text why status holds is counts printed
  by_cause status (text_unread is rose same) =
      subst (λ (n : ℕ). CallEnds border_says (asked task) before after n []) (sym (ap status_number is))
      (early_unread task before after (script_stages task) keeps reads.kept reads.appends (inl (record { name = task.script; in_hand = refl; rose = rose })) same)
  by_cause status (text_without_memory counts printed) = early_quiet task before after (script_stages task) keeps reads.kept reads.appends status counts reads.creates printed

  pub ends_scriptless : (status : Status) → IsScriptEnd task.script before after status → CallEnds border_says (asked task) before after (status_number status) []
  ends_scriptless status ended = by_cause status ended.why

pub unmoved_by : (file : List ℕ) (before mid : Outside) (script : Script) → HasScript file before mid script → IsUnmoved before.folder mid.folder
unmoved_by file before mid script has = record { told = has.reads.told; kept = has.reads.kept; reads = has.counts; creates = has.reads.creates; appends = has.reads.appends }

-- ---- after the script, where no file has changed

module _ (task : Task) (before start after : Outside) (same : IsUnmoved before.folder start.folder) (stream : start.stream ≡ before.stream) (folder : after.folder ≡ start.folder) where
  only : IsOnlyRead before.folder after.folder
  only = record {
    told = ap (λ (d : DepotState). d.tells) folder ∙ same.told;
    kept = λ told name. ap (λ (d : DepotState). d.held name) folder ∙ same.kept told name;
    creates = λ name. ap (λ (d : DepotState). d.creates name) folder ∙ same.creates name;
    appends = λ name. ap (λ (d : DepotState). d.appends name) folder ∙ same.appends name;
  }

  reads_still : SameCounts before.folder.reads after.folder.reads
  reads_still name = ap (λ (d : DepotState). d.reads name) folder ∙ same.reads name

  -- what is wrong was printed
  pub ends_line : (line : List ℕ) (status : Status) → (IsTrue before.folder.tells → IsOutcome task before.folder.held (refused 2 line)) → Printed [] line WrongScript status start.stream after.stream
      → CallEnds border_says (asked task) before after (status_number status) []
  ends_line line status is printed =
      early_event task before after (script_stages task) (keeps task before after only) only.kept only.appends WrongScript status line (inr (inl refl)) (λ e. omega (arith, e), λ e. omega (arith, e), λ e. omega (arith, e))
      (λ e. omega (arith, e)) (λ e. omega (arith, e)) is reads_still only.creates (subst (λ (s : SinkState). Printed [] line WrongScript status s after.stream) stream printed)

  -- or memory ran out
  pub ends_memory : after.stream ≡ start.stream → CallEnds border_says (asked task) before after 6 []
  ends_memory still = early_short task before after (script_stages task) (keeps task before after only) only.kept only.appends reads_still only.creates (still ∙ stream)
