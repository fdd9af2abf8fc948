-- `run`: the commands and flows of a script.
use Rattle.std.specs.Prelude.{ℕ, ◌≡◌, ◌≢◌, ◌⊎◌, ◌<◌, List, [], ◌∷◌, length, take, drop, map, All, Some, Result, Ok, Err}
use Rattle.label_commands.specs.declared.script.Script.{Script}
use Rattle.label_commands.specs.declared.stop.ScriptStop.{ScriptStop}
use Rattle.label_commands.specs.declared.flow_lines.flow.FlowLine.{FlowLine}
use Rattle.call_report.specs.Report.{Folder, Versions, Report, late_report}
use Rattle.call_report.specs.Event.{packets_limit}
use Rattle.call_report.specs.Output.{Output}
use Rattle.call_report.specs.Stages.{Stage, reading_stage}
use Rattle.call_report.specs.Lines.Script.{script_stop_line}
use Rattle.label_flow.specs.flow_access.Access.{HaveAccess}
use Rattle.script_run.specs.flow_run.Input.{packets_in}
use Rattle.script_run.specs.flow_run.Run.{FlowRun}
use Rattle.script_run.specs.flow_run.Withheld.{WithholdsUnsaid}
use Rattle.label_flow.specs.flow_access.Valid.{plan_of}
use Rattle.script_run.specs.Runs.{AreRuns, AreWholeRuns, IsLawfulRun, FlowsStatus}
use Rattle.script_run.specs.Report.{runs_report, runs_outputs}
use Rattle.call_report.specs.Says.{Says}
use Rattle.call_report.specs.script_input.ScriptFile.{script_read, ByScript, script_stop_status}

-- the flows of a script have run so, under the versions that were printed
abbrev pub AreItsRuns : Script → Folder → Versions → List FlowRun → Type 0
AreItsRuns script held seen runs = AreRuns (plan_of script) held 1 packets_limit script.flows seen runs

-- nothing is printed before the script is known to be right
abbrev pub RunReport : List ℕ → Folder → Versions → Report → Type 0
RunReport file held seen report = ByScript file (held file)
    (report ≡ late_report [] [])
    (λ stop. report ≡ late_report [] (script_stop_line stop))
    (λ script. (runs : List FlowRun) × AreItsRuns script held seen runs × (report ≡ runs_report script runs))

-- the status of the script's first fault or passed limit, else that of the first event of its captures
abbrev pub RunStatus : List ℕ → Folder → ℕ → Type 0
RunStatus file held status = ByScript file (held file)
    ⊥
    (λ stop. status ≡ script_stop_status stop)
    (λ script. FlowsStatus held 1 packets_limit script.flows status)

-- where the folder tells nothing: some text has this status, and behind a script with flows a capture may be broken, or have too many packets
abbrev pub RunMay : Result Script ScriptStop → ℕ → Type 0
RunMay (Err stop) status = status ≡ script_stop_status stop
RunMay (Ok script) status = (status ≡ 0) ⊎ ((0 < length script.flows) × ((status ≡ 5) ⊎ (status ≡ 7)))

-- a flow reads its input and makes its output
abbrev pub flow_stage : FlowLine → Stage
flow_stage flow = record { input = Some flow.input; output = flow.output }

-- the script is read first, and then each flow's capture that was begun, of which versions were printed, if none of its packets
abbrev pub RunStages : List ℕ → Folder → Versions → List Stage → Type 0
RunStages file held seen stages = (length (drop 1 stages) ≡ length seen) × ByScript file (held file)
    (stages ≡ reading_stage file ∷ [])
    (λ stop. stages ≡ reading_stage file ∷ [])
    (λ script. stages ≡ reading_stage file ∷ map flow_stage (take (length seen) script.flows))

-- the outputs are made of what the flows came to
abbrev pub RunOutputs : List ℕ → Folder → Versions → List Output → Type 0
RunOutputs file held seen outputs = ByScript file (held file)
    (outputs ≡ [])
    (λ stop. outputs ≡ [])
    (λ script. (runs : List FlowRun) × AreItsRuns script held seen runs × (outputs ≡ runs_outputs runs))

-- of each flow up to the one in hand, with so many workers
abbrev pub RunLawful : List ℕ → ℕ → Folder → Versions → Type 0
RunLawful file workers held seen = ByScript file (held file)
    (seen ≡ [])
    (λ stop. seen ≡ [])
    (λ script. (runs : List FlowRun) × AreItsRuns script held seen runs × All (IsLawfulRun script workers) runs)

-- each flow came to its end, up to the one that ends the call
abbrev pub RunWhole : List ℕ → Folder → Versions → Type 0
RunWhole file held seen = ByScript file (held file)
    (seen ≡ [])
    (λ stop. seen ≡ [])
    (λ script. (runs : List FlowRun) × AreItsRuns script held seen runs × AreWholeRuns script runs)

-- The packets of a flow that were judged, with what their lines tell of them, the versions of their hops and their end: where a packet's label was kept
-- along its way under these versions, its end is sound.
abbrev pub HasRunAccess : Script → FlowRun → Type 0
HasRunAccess script run = HaveAccess (plan_of script) script.readings run.flow.hops (packets_in run.input) run.pairs

-- a packet whose label no option can say stays where it is
abbrev pub RunWithholds : Script → FlowRun → Type 0
RunWithholds script run = WithholdsUnsaid (plan_of script) run

-- So it is of each run, of whatever runs the versions give: so of those that the report is of, those that the outputs are made of, and those that are lawful and whole.
abbrev pub OfEachRun : (Script → FlowRun → Type 0) → List ℕ → Folder → Versions → Type 0
OfEachRun P file held seen = ByScript file (held file)
    (Unit {0})
    (λ stop. Unit {0})
    (λ script. (runs : List FlowRun) → AreItsRuns script held seen runs → All (P script) runs)

-- a status is possible by what its script may hold; something may be printed before its reads and makings once it has begun a flow
abbrev pub run_says : List ℕ → ℕ → Says
run_says file workers = record {
  report = RunReport file;
  reads = Unit {0};
  status = RunStatus file;
  possible = λ status. (text : List ℕ) × RunMay (script_read file text) status;
  stages = RunStages file;
  outputs = RunOutputs file;
  lawful = RunLawful file workers;
  whole = RunWhole file;
  access = OfEachRun HasRunAccess file;
  withheld = OfEachRun RunWithholds file;
  preceded = λ seen stages call. seen ≢ [];
}
