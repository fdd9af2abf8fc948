-- An audit of what a run has printed that ended with status 0.
use Rattle.std.specs.Prelude.{ℕ, ◌≡◌, ◌⊎◌, ◌<◌, IsTrue, List, length, All, Some}
use Rattle.net_io.specs.Depot.{DepotState}
use Rattle.label_commands.specs.declared.script.Script.{Script}
use Rattle.label_flow.specs.flow_access.Valid.{plan_of}
use Rattle.call_report.specs.CallEnds.{IsRefusal, IsWritten}
use Rattle.call_report.specs.Event.{packets_limit}
use Rattle.call_report.specs.Outside.{Outside}
use Rattle.call_report.specs.Report.{Folder, Versions, report_text}
use Rattle.script_run.specs.flow_run.Run.{FlowRun}
use Rattle.script_run.specs.Report.{runs_report}
use Rattle.script_run.specs.Runs.{AreRuns, AreWholeRuns, IsLawfulRun, FlowsStatus}
use Rattle.call_report.specs.script_input.ScriptFile.{ByScript}
use Rattle.netlabel_audit.specs.declared.asked.Audit.{Audit}
use Rattle.netlabel_audit.specs.Lines.{yes_line}
use Rattle.netlabel_audit.specs.Outcome.{report_limit}

-- What is said of a call that ran this script with so many workers over what a folder held, ended with status 0 and printed this text: its status, and, each
-- by the versions that it printed, its report, that they are lawful, and that nothing is left out.
pub record HasEndedWith0 (script : Script) (workers : ℕ) (held : Folder) (text : List ℕ) : Type 0 where
  pub seen : Versions
  pub due : FlowsStatus held 1 packets_limit script.flows 0
  pub report : (runs : List FlowRun) × AreRuns (plan_of script) held 1 packets_limit script.flows seen runs × (report_text (runs_report script runs) ≡ text)
  pub lawful : (runs : List FlowRun) × AreRuns (plan_of script) held 1 packets_limit script.flows seen runs × All (IsLawfulRun script workers) runs
  pub whole : (runs : List FlowRun) × AreRuns (plan_of script) held 1 packets_limit script.flows seen runs × AreWholeRuns script runs

-- What is asked for is an audit of this text: a folder tells what it holds, the file of the script is this script, the report is the text, and the inputs of
-- the flows are what they were for the run.
pub record IsAuditOf (asked : Audit) (script : Script) (ran : Folder) (text : List ℕ) (folder : DepotState) : Type 0 where
  pub told : IsTrue folder.tells
  pub read : ByScript asked.script (folder.held asked.script) ⊥ (λ stop. ⊥) (λ own. own ≡ script)
  pub report : folder.held asked.report ≡ Some text
  pub inputs : All (λ flow. ran flow.input ≡ folder.held flow.input) script.flows

-- The answer is `yes`, with status 0; or a read or a write failed or memory ran out, with 3, 4 or 6; or the text is longer than an audit reads, with 7.
abbrev pub IsAnsweredYes : List ℕ → Outside → Outside → ℕ → Type 0
IsAnsweredYes text before after status =
    ((status ≡ 0) × (IsTrue before.stream.tells → IsWritten yes_line before after))
    ⊎ IsRefusal status
    ⊎ ((status ≡ 7) × (report_limit < length text))
