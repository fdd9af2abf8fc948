-- What is true of the definitions alone.
use Rattle.std.specs.Prelude.{◌≡◌, ◌<◌, ℕ, List, All}
use Rattle.label_commands.specs.declared.flow_lines.flow.FlowLine.{FlowLine}
use Rattle.call_report.specs.Report.{Folder, Versions, Report}
use Rattle.call_report.specs.Output.{Output}
use Rattle.call_report.specs.Says.{Says}
use Rattle.script_run.specs.Runs.{HasNoneBeside}
use Rattle.call_report.specs.script_input.ScriptFile.{ByScript}
use Rattle.netlabel_run.specs.Run.{run_says}

-- at most one value is of the kind
abbrev pub IsOne : {A : Type 0} → (A → Type 0) → Type 0
IsOne {A} P = (a b : A) → P a → P b → a ≡ b

-- there is one status, one report, one list of stages and one of outputs at most
pub record IsDetermined (says : Says) (held : Folder) (seen : Versions) : Type 0 where
  pub status : IsOne (says.status held)
  pub report : IsOne (says.report held seen)
  pub stages : IsOne (says.stages held seen)
  pub outputs : IsOne (says.outputs held seen)

-- where the file holds a script, none of its commands stands beside a flow
abbrev pub HasNoCommandBeside : List ℕ → Folder → Type 0
HasNoCommandBeside file held = ByScript file (held file) (Unit {0}) (λ stop. Unit {0}) HasNoneBeside

-- two folders hold the same under a script's name, and under those of its flows' captures
abbrev pub HoldTheSame : List ℕ → Folder → Folder → Type 0
HoldTheSame file held other = (held file ≡ other file)
    × ByScript file (other file) (Unit {0}) (λ stop. Unit {0}) (λ script. All (λ (flow : FlowLine). held flow.input ≡ other flow.input) script.flows)

-- What `run` prints and makes where nothing is refused: with some number of workers, and under some versions that are lawful and leave nothing out.
pub record IsAnswer (file : List ℕ) (held : Folder) (report : Report) (outputs : List Output) : Type 0 where
  pub workers : ℕ
  pub some : 0 < workers
  pub seen : Versions
  pub lawful : (run_says file workers).lawful held seen
  pub whole : (run_says file workers).whole held seen
  pub prints : (run_says file workers).report held seen report
  pub makes : (run_says file workers).outputs held seen outputs
