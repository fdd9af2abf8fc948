-- The statements of the laws, as terms.
use Rattle.std.proofs.Common.{◌≡◌, ◌↔◌, ℕ, ◌+◌, ◌-◌, List, [], ◌∷◌, length, Option, Some, None, refl, sym, ap}
use Rattle.label_commands.specs.declared.flow_lines.flow.FlowLine.{FlowLine}
use Rattle.captures.specs.declared.format.CaptureFormat.{CaptureFormat}
use Rattle.label_commands.specs.declared.script.Script.{Script}
use Rattle.call_report.specs.CallEnds.{CallEnds}
use Rattle.call_report.specs.Event.{Event}
use Rattle.call_report.specs.Outside.{Outside}
use Rattle.call_report.specs.Report.{Folder, Versions}
use Rattle.script_run.specs.flow_run.Input.{flow_input}
use Rattle.script_run.specs.Runs.{StatusOr, FlowsStatus}
use Rattle.netlabel_audit.specs.declared.asked.Audit.{Audit}
use Rattle.netlabel_audit.specs.Inputs.{InputsEnd, one_absent, ended_by, all_whole, end_or, inputs_end}
use Rattle.netlabel_audit.specs.OfRun.{HasEndedWith0, IsAuditOf, IsAnsweredYes}
use Rattle.netlabel_audit.specs.Says.{audit_says}
use Rattle.netlabel_audit.proofs.OfRun.{whole_of_0, is_answered}

status_behind : (event : Option Event) (format : Option CaptureFormat) (behind : InputsEnd) (then : Type 0) → end_or event format behind ≡ all_whole → (behind ≡ all_whole → then) → StatusOr event format then 0
status_behind (Some event) format behind then is next = absurd (let no : ended_by event ≡ all_whole = is in cc)
status_behind None (Some format) behind then is next = next is
status_behind None None behind then is next = absurd (let no : one_absent ≡ all_whole = is in cc)

ends_no_run : (held : Folder) (number most : ℕ) (flows : List FlowLine) → inputs_end held number most flows ≡ all_whole → FlowsStatus held number most flows 0
ends_no_run held number most [] is = refl
ends_no_run held number most (flow ∷ flows) is =
    let input = flow_input number most (held flow.input) in
    status_behind input.event input.format (inputs_end held (number + 1) (most - length input.frames) flows) (FlowsStatus held (number + 1) (most - length input.frames) flows 0) is
    (ends_no_run held (number + 1) (most - length input.frames) flows)

pub whole_captures_end_no_run : (held : Folder) (number most : ℕ) (flows : List FlowLine) → (inputs_end held number most flows ≡ all_whole ↔ FlowsStatus held number most flows 0)
whole_captures_end_no_run held number most flows = (ends_no_run held number most flows, whole_of_0 held number most flows)

-- an event ends them: a run has its status
event_behind : (own : Option Event) (format : Option CaptureFormat) (behind : InputsEnd) (then : Type 0) (event : Event) → end_or own format behind ≡ ended_by event
    → (behind ≡ ended_by event → then) → StatusOr own format then event.status
event_behind (Some own) format behind then event is next = let same : own ≡ event = cc in ap (λ (e : Event). e.status) (sym same)
event_behind None (Some format) behind then event is next = next is
event_behind None None behind then event is next = absurd (let no : one_absent ≡ ended_by event = is in cc)

pub events_of_captures_are_those_of_a_run : (held : Folder) (number most : ℕ) (flows : List FlowLine) (event : Event) → inputs_end held number most flows ≡ ended_by event → FlowsStatus held number most flows event.status
events_of_captures_are_those_of_a_run held number most [] event is = absurd (let no : all_whole ≡ ended_by event = is in cc)
events_of_captures_are_those_of_a_run held number most (flow ∷ flows) event is =
    let input = flow_input number most (held flow.input) in
    event_behind input.event input.format (inputs_end held (number + 1) (most - length input.frames) flows) (FlowsStatus held (number + 1) (most - length input.frames) flows event.status) event is
    (events_of_captures_are_those_of_a_run held (number + 1) (most - length input.frames) flows event)

pub reports_of_runs_are_answered_yes : (asked : Audit) (script : Script) (ran : Folder) (text : List ℕ) (before after : Outside) (status : ℕ) (seen : Versions) → HasEndedWith0 script asked.workers ran text
    → IsAuditOf asked script ran text before.folder → CallEnds audit_says (Some asked) before after status seen → IsAnsweredYes text before after status
reports_of_runs_are_answered_yes = is_answered
