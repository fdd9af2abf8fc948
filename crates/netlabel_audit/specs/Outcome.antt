-- What an audit comes to, by what its files hold: the tests come in this order, and the first that fails decides.
use Rattle.std.specs.Prelude.{◌≡◌, ℕ, nat_lt, List, [], length, Option, Some, None, MatchBool}
use Rattle.label_commands.specs.declared.script.Script.{Script}
use Rattle.call_report.specs.Event.{packets_limit}
use Rattle.call_report.specs.Lines.Script.{script_stop_line}
use Rattle.call_report.specs.Report.{Folder, Report, late_report}
use Rattle.call_report.specs.script_input.ScriptFile.{ByScript, script_stop_status}
use Rattle.label_audit.specs.Good.{IsReport, IsFirstBad}
use Rattle.netlabel_audit.specs.declared.asked.Audit.{Audit}
use Rattle.netlabel_audit.specs.Inputs.{InputsEnd, one_absent, ended_by, all_whole, inputs_end}
use Rattle.netlabel_audit.specs.Lines.{yes_line, no_line, report_limit_line}

-- What is printed, and the status that is due, none where a file is absent that is needed.
pub record AuditOutcome : Type 0 where
  pub report : Report
  pub status : Option ℕ

abbrev pub nothing_due : AuditOutcome
nothing_due = record { report = late_report [] []; status = None }

-- an event decides, and its line tells it
abbrev pub decided_by : ℕ → List ℕ → AuditOutcome
decided_by status line = record { report = late_report [] line; status = Some status }

-- the report is answered
abbrev pub answer_told : ℕ → List ℕ → AuditOutcome
answer_told status line = record { report = late_report line []; status = Some status }

-- by the report's lines: all of them are those of a whole run, or this is the first that isn't good
pub data ByLines (script : Script) (workers : ℕ) (held : Folder) (octets : List ℕ) : AuditOutcome → Type 0 where
  all_good : IsReport script workers held octets → ByLines script workers held octets (answer_told 0 yes_line)
  first_bad : (line : ℕ) → IsFirstBad script workers held octets line → ByLines script workers held octets (answer_told 8 (no_line line))

-- each flow's capture is read to its end first
abbrev pub ByInputs : Script → ℕ → Folder → List ℕ → InputsEnd → AuditOutcome → Type 0
ByInputs script workers held octets one_absent outcome = outcome ≡ nothing_due
ByInputs script workers held octets (ended_by event) outcome = outcome ≡ decided_by event.status event.line
ByInputs script workers held octets all_whole outcome = ByLines script workers held octets outcome

-- the most octets of a report
abbrev pub report_limit : ℕ
report_limit = 268435456

-- in front of that, the length of the report
abbrev pub ByReport : Script → ℕ → Folder → Option (List ℕ) → AuditOutcome → Type 0
ByReport script workers held None outcome = outcome ≡ nothing_due
ByReport script workers held (Some octets) outcome = MatchBool (nat_lt report_limit (length octets))
    (outcome ≡ decided_by 7 report_limit_line)
    (ByInputs script workers held octets (inputs_end held 1 packets_limit script.flows) outcome)

-- and in front of all, the script
abbrev pub IsAuditOutcome : Audit → Folder → AuditOutcome → Type 0
IsAuditOutcome asked held outcome = ByScript asked.script (held asked.script)
    (outcome ≡ nothing_due)
    (λ stop. outcome ≡ decided_by (script_stop_status stop) (script_stop_line stop))
    (λ script. ByReport script asked.workers held (held asked.report) outcome)
