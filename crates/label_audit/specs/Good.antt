-- Whether a report is one that a run of a script may print, and which of its lines is the first that isn't. Lines are counted from 1 and end with LF.
use Rattle.std.specs.Prelude.{ℕ, ◌≡◌, ◌⊎◌, ◌<◌, IsTrue, List, [], ◌++◌, All}
use Rattle.label_commands.specs.declared.script.Script.{Script}
use Rattle.call_report.specs.Lines.Parts.{line_of}
use Rattle.call_report.specs.Report.{Folder, Versions, report_text}
use Rattle.call_report.specs.Event.{packets_limit}
use Rattle.call_report.specs.report_file.Meeting.{lines_in}
use Rattle.label_flow.specs.flow_access.Valid.{plan_of}
use Rattle.script_run.specs.flow_run.Run.{FlowRun}
use Rattle.script_run.specs.Runs.{AreRuns, IsLawfulRun, is_done}
use Rattle.script_run.specs.Report.{runs_report}

-- Flows of a script have run so, each packet under versions of the tables that are lawful with so many workers, and this was printed of them. Whoever
-- knows the text knows the versions: each packet's line names its own.
pub record IsLawfullyPrinted (script : Script) (workers : ℕ) (held : Folder) (text : List ℕ) : Type 0 where
  pub seen : Versions
  pub runs : List FlowRun
  pub are : AreRuns (plan_of script) held 1 packets_limit script.flows seen runs
  pub lawful : All (IsLawfulRun script workers) runs
  pub prints : report_text (runs_report script runs) ≡ text

-- a whole report: all flows have run to their ends, each packet under lawful versions, and this was printed of them
pub record IsReport (script : Script) (workers : ℕ) (held : Folder) (report : List ℕ) : Type 0 where
  pub seen : Versions
  pub runs : List FlowRun
  pub are : AreRuns (plan_of script) held 1 packets_limit script.flows seen runs
  pub lawful : All (IsLawfulRun script workers) runs
  pub done : IsTrue (is_done script runs)
  pub prints : report_text (runs_report script runs) ≡ report

-- a text has so many lines in front, and these octets are they; what stands behind them may be no whole line
pub record FirstLines (l : ℕ) (text front : List ℕ) : Type 0 where
  pub rest : List ℕ
  pub is : text ≡ front ++ rest
  pub count : lines_in front ≡ l
  pub ends : (front ≡ []) ⊎ ((line : List ℕ) × (front ≡ line_of line))

-- the first l lines of a report are good: what is printed of flows that have run lawfully begins with them
pub record IsGood (script : Script) (workers : ℕ) (held : Folder) (report : List ℕ) (l : ℕ) : Type 0 where
  pub front : List ℕ
  pub first : FirstLines l report front
  pub more : List ℕ
  pub printed : IsLawfullyPrinted script workers held (front ++ more)

-- Line l is the first that isn't good; behind a report's last line it is the one that is missing, or not whole. The report isn't a whole one.
pub record IsFirstBad (script : Script) (workers : ℕ) (held : Folder) (report : List ℕ) (l : ℕ) : Type 0 where
  pub before : (k : ℕ) → k < l → IsGood script workers held report k
  pub bad : IsGood script workers held report l → ⊥
  pub other : IsReport script workers held report → ⊥
