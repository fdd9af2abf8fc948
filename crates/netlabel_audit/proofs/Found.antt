-- What is found of a report, by the tests that come one behind another.
use Rattle.std.proofs.Common.{◌≡◌, ◌≤◌, ◌<◌, ℕ, Bool, true, false, nat_lt, List, length, Option, Some, None, Ok, refl, sym, ap, subst, ◌∙◌, inl, inr}
use Rattle.std.specs.Prelude.{IsSome, MatchBool}
use Rattle.std.proofs.lemmas.Bool.{cases_lt, lt-ltb}
use Rattle.net_io.specs.Depot.{octets_of, SameHeld}
use Rattle.net_io.specs.declared.fault.IoFault.{IoFault}
use Rattle.net_io.specs.declared.fault.IoFault.TheVariants as io
use Rattle.label_commands.specs.declared.flow_lines.flow.FlowLine.{FlowLine}
use Rattle.label_commands.specs.declared.script.Script.{Script}
use Rattle.call_report.specs.Event.{Event, packets_limit}
use Rattle.call_report.specs.Report.{Folder}
use Rattle.script_run.specs.Runs.{FlowsStatus}
use Rattle.label_audit.specs.Audited.{IsAudited}
use Rattle.label_audit.specs.declared.audited.Audited.{Audited}
use Rattle.label_audit.specs.declared.audited.Audited.TheVariants.{Yes, NoLine}
use Rattle.netlabel_audit.specs.declared.asked.Audit.{Audit}
use Rattle.netlabel_audit.specs.declared.stop.AuditStop.{AuditStop}
use Rattle.netlabel_audit.specs.declared.stop.AuditStop.TheVariants as stop
use Rattle.netlabel_audit.specs.Inputs.{InputsEnd, ended_by, all_whole, inputs_end}
use Rattle.netlabel_audit.specs.Lines.{report_limit_line}
use Rattle.netlabel_audit.specs.Outcome.{AuditOutcome, decided_by, ByLines, all_good, first_bad, ByInputs, ByReport}
use Rattle.netlabel_audit.specs.Says.{AuditMay}
use Rattle.netlabel_audit.specs.inside.Finding.{event_of, stop_of_fault, outcome_of}
use Rattle.netlabel_audit.proofs.Law.{whole_captures_end_no_run}

-- each name holds what it held
pub held_same : (old new : Folder) → SameHeld old new → new ≡ old
held_same old new same = λ i. λ name. same name i

-- no event
pub no_event : (fault : IoFault) (event : Event) → event_of (stop_of_fault fault) ≡ Some event → ⊥
no_event io.Failed event told = let no : None ≡ Some event = told in absurd cc
no_event io.OutOfMemory event told = let no : None ≡ Some event = told in absurd cc

module _ (asked : Audit) (script : Script) (held : Folder) where
  abbrev Due : AuditOutcome → Type 0
  Due outcome = ByReport script asked.workers held (held asked.report) outcome

  in_report : (octets : List ℕ) → held asked.report ≡ Some octets → (outcome : AuditOutcome) → ByReport script asked.workers held (Some octets) outcome → Due outcome
  in_report octets is outcome due = subst (λ (o : Option (List ℕ)). ByReport script asked.workers held o outcome) (sym is) due

  octets_here : (o : Option (List ℕ)) → IsSome o → o ≡ Some (octets_of o)
  octets_here (Some octets) some = refl
  octets_here None some = absurd (let no : false ≡ true = some in cc)

  module _ (present : IsSome (held asked.report)) where
    abbrev octets : List ℕ
    octets = octets_of (held asked.report)

    is_here : held asked.report ≡ Some octets
    is_here = octets_here (held asked.report) present

    -- it is too long
    pub is_long : true ≡ nat_lt 268435456 (length octets) → (event : Event) → event_of stop.LongReport ≡ Some event → Due (decided_by event.status event.line)
    is_long long event told =
        in_report octets is_here (decided_by event.status event.line)
        (subst (λ (b : Bool). MatchBool b (decided_by event.status event.line ≡ decided_by 7 report_limit_line)
        (ByInputs script asked.workers held octets (inputs_end held 1 packets_limit script.flows) (decided_by event.status event.line))) long
        (decided_same event (record { status = 7; line = report_limit_line }) (sym told)))
      where
        decided_same : (event other : Event) → Some event ≡ Some other → decided_by event.status event.line ≡ decided_by other.status other.line
        decided_same event other same = let is : event ≡ other = cc in ap (λ (e : Event). decided_by e.status e.line) is

    module _ (short : false ≡ nat_lt 268435456 (length octets)) where
      pub short_is : length octets ≤ 268435456
      short_is = elim (cases_lt 268435456 (length octets)) [
        | inl more ↦ absurd (let no : false ≡ true = short ∙ lt-ltb 268435456 (length octets) more in cc)
        | inr few ↦ few
      ]

      behind_length : (end : InputsEnd) (outcome : AuditOutcome) → inputs_end held 1 packets_limit script.flows ≡ end → ByInputs script asked.workers held octets end outcome → Due outcome
      behind_length end outcome is due =
          in_report octets is_here outcome
          (subst (λ (b : Bool). MatchBool b (outcome ≡ decided_by 7 report_limit_line) (ByInputs script asked.workers held octets (inputs_end held 1 packets_limit script.flows) outcome)) short
          (subst (λ (e : InputsEnd). ByInputs script asked.workers held octets e outcome) (sym is) due))

      -- a capture ends the call
      pub is_ended : (event : Event) → inputs_end held 1 packets_limit script.flows ≡ ended_by event → Due (decided_by event.status event.line)
      is_ended event is = behind_length (ended_by event) (decided_by event.status event.line) is refl

      by_verdict : (verdict : Audited) → IsAudited script asked.workers held octets verdict → ByLines script asked.workers held octets (outcome_of verdict)
      by_verdict Yes is = all_good is
      by_verdict (NoLine line) is = first_bad line is

      -- all captures are whole, and the lines decide
      pub is_judged : inputs_end held 1 packets_limit script.flows ≡ all_whole → (verdict : Audited) → IsAudited script asked.workers held octets verdict → Due (outcome_of verdict)
      is_judged whole verdict is = behind_length all_whole (outcome_of verdict) whole (by_verdict verdict is)

status_is : (event : Event) (number : ℕ) (line : List ℕ) → Some (record { status = number; line = line }) ≡ Some event → event.status ≡ number
status_is event number line told =
    let other : Event = record { status = number; line = line } in
    let same : other ≡ event = cc in
    sym (ap (λ (e : Event). e.status) same)

-- where the folder tells nothing
pub capture_may : (script : Script) (why : AuditStop) → 0 < length script.flows → (event : Event) → event_of why ≡ Some event → AuditMay (Ok script) event.status
capture_may script stop.LongReport some event told = inr (inl (status_is event 7 _ told))
capture_may script (stop.Broken flow fault) some event told = inr (inr (inr (some, status_is event 5 _ told)))
capture_may script stop.TooMany some event told = inr (inl (status_is event 7 _ told))
capture_may script stop.Unread some event told = absurd (let no : None ≡ Some event = told in cc)
capture_may script stop.OutOfMemory some event told = absurd (let no : None ≡ Some event = told in cc)

-- ---- test by test: a folder is read, which holds what it held

module _ (asked : Audit) (script : Script) (start : Folder) (name : List ℕ) (named : name ≡ asked.report) (present : IsSome (start name)) (longer : Bool)
    (is : longer ≡ nat_lt 268435456 (length (octets_of (start name)))) (no : longer ≡ false) where
  here : IsSome (start asked.report)
  here = subst (λ (n : List ℕ). IsSome (start n)) named present

  short : false ≡ nat_lt 268435456 (length (octets_of (start asked.report)))
  short = sym no ∙ is ∙ ap (λ (n : List ℕ). nat_lt 268435456 (length (octets_of (start n)))) named

  -- a capture isn't whole
  pub inputs_decide : (mid : Folder) → SameHeld start mid → (event : Event) → inputs_end mid 1 packets_limit script.flows ≡ ended_by event
      → ByReport script asked.workers start (start asked.report) (decided_by event.status event.line)
  inputs_decide mid same event ended =
      is_ended asked script start here short event (ap (λ (held : Folder). inputs_end held 1 packets_limit script.flows) (sym (held_same start mid same)) ∙ ended)

  -- all are, and the lines decide
  pub lines_decide : (mid late : Folder) → SameHeld start mid → SameHeld mid late → inputs_end mid 1 packets_limit script.flows ≡ all_whole
      → (verdict : Audited) → IsAudited script asked.workers late (octets_of (late name)) verdict → ByReport script asked.workers start (start asked.report) (outcome_of verdict)
  lines_decide mid late same still whole verdict judged =
      let back : late ≡ start = held_same mid late still ∙ held_same start mid same in
      let now = subst (λ (n : List ℕ). IsAudited script asked.workers start (octets_of (start n)) verdict) named
      (subst (λ (held : Folder). IsAudited script asked.workers held (octets_of (held name)) verdict) back judged) in
      is_judged asked script start here short (ap (λ (held : Folder). inputs_end held 1 packets_limit script.flows) (sym (held_same start mid same)) ∙ whole) verdict now

-- what the judging of lines asks for
pub flows_are_whole : (flows : List FlowLine) (mid late : Folder) → SameHeld mid late → inputs_end mid 1 packets_limit flows ≡ all_whole → FlowsStatus late 1 packets_limit flows 0
flows_are_whole flows mid late same whole =
    subst (λ (held : Folder). FlowsStatus held 1 packets_limit flows 0) (sym (held_same mid late same)) ((whole_captures_end_no_run mid 1 packets_limit flows).0 whole)
