-- Where no command of a script stands beside a flow, folders that hold the same script and captures have one report, and one list of outputs.
use Rattle.std.proofs.Common.{◌≡◌, ℕ, List, [], Option, Some, None, Result, Ok, Err, subst}
use Rattle.std.specs.Prelude.{All}
use Rattle.label_commands.specs.declared.flow_lines.flow.FlowLine.{FlowLine}
use Rattle.label_commands.specs.declared.script.Script.{Script}
use Rattle.label_commands.specs.declared.stop.ScriptStop.{ScriptStop}
use Rattle.call_report.specs.Lines.Script.{script_stop_line}
use Rattle.call_report.specs.Report.{Folder, Versions, Report, late_report}
use Rattle.call_report.specs.Output.{Output}
use Rattle.call_report.specs.Event.{packets_limit}
use Rattle.script_run.specs.flow_run.Run.{FlowRun}
use Rattle.label_flow.specs.flow_access.Valid.{plan_of}
use Rattle.script_run.specs.Runs.{AreWholeRuns, IsLawfulRun}
use Rattle.script_run.specs.Report.{runs_report, runs_outputs}
use Rattle.script_run.proofs.Law.{runs_know_their_inputs_alone}
use Rattle.netlabel_run.specs.declared.command.Command.TheVariants.{Run}
use Rattle.call_report.specs.script_input.ScriptFile.{script_read, ByAnswer, ByScript}
use Rattle.netlabel_run.specs.Run.{AreItsRuns, RunReport, RunOutputs}
use Rattle.netlabel_run.specs.Laws.{HasNoCommandBeside, HoldTheSame, IsAnswer}
use Rattle.netlabel_run.proofs.Forced.{forced}
use Rattle.netlabel_run.proofs.Once.{determined}

-- what is said of a script's runs in one folder is so in the other
module _ (file : List ℕ) (held other : Folder) (seen : Versions) (absent : Type 0) (refused : ScriptStop → Type 0) (R : Script → List FlowRun → Type 0) where
  abbrev Said : Folder → Script → Type 0
  Said folder script = (runs : List FlowRun) × AreItsRuns script folder seen runs × R script runs

  abbrev Same : Script → Type 0
  Same script = All (λ (flow : FlowLine). held flow.input ≡ other flow.input) script.flows

  by_answer : (answer : Result Script ScriptStop) → ByAnswer answer (λ stop. Unit {0}) Same → ByAnswer answer refused (Said held) → ByAnswer answer refused (Said other)
  by_answer (Err why) same x = x
  by_answer (Ok script) same x = (x.0, runs_know_their_inputs_alone (plan_of script) held other 1 packets_limit script.flows seen x.0 same x.1, x.2)

  by_script : (text : Option (List ℕ)) → ByScript file text (Unit {0}) (λ stop. Unit {0}) Same → ByScript file text absent refused (Said held) → ByScript file text absent refused (Said other)
  by_script None same x = x
  by_script (Some text) same x = by_answer (script_read file text) same x

  moved : HoldTheSame file held other → ByScript file (held file) absent refused (Said held) → ByScript file (other file) absent refused (Said other)
  moved same x = by_script (other file) same.1 (subst (λ (t : Option (List ℕ)). ByScript file t absent refused (Said held)) same.0 x)

answer_moved : (file : List ℕ) (held other : Folder) (report : Report) (outputs : List Output) → HoldTheSame file held other → IsAnswer file held report outputs → IsAnswer file other report outputs
answer_moved file held other report outputs same a = record {
  workers = a.workers;
  some = a.some;
  seen = a.seen;
  lawful = moved file held other a.seen (a.seen ≡ []) (λ stop. a.seen ≡ []) (λ script runs. All (IsLawfulRun script a.workers) runs) same a.lawful;
  whole = moved file held other a.seen (a.seen ≡ []) (λ stop. a.seen ≡ []) (λ script runs. AreWholeRuns script runs) same a.whole;
  prints = moved file held other a.seen (report ≡ late_report [] []) (λ stop. report ≡ late_report [] (script_stop_line stop)) (λ script runs. report ≡ runs_report script runs) same a.prints;
  makes = moved file held other a.seen (outputs ≡ []) (λ stop. outputs ≡ []) (λ script runs. outputs ≡ runs_outputs runs) same a.makes;
}

pub one_answer : (file : List ℕ) (held other : Folder) (report report' : Report) (outputs outputs' : List Output) → HasNoCommandBeside file other → HoldTheSame file held other
    → IsAnswer file held report outputs → IsAnswer file other report' outputs' → (report ≡ report') × (outputs ≡ outputs')
one_answer file held other report report' outputs outputs' none same a b =
    let here = answer_moved file held other report outputs same a in
    let seen_once : here.seen ≡ b.seen = forced file here.workers b.workers other here.seen b.seen none here.some b.some here.lawful here.whole b.lawful b.whole in
    let once = determined (Some (Run file b.workers)) other b.seen in (
      once.report report report' (subst (λ (s : Versions). RunReport file other s report) seen_once here.prints) b.prints,
      once.outputs outputs outputs' (subst (λ (s : Versions). RunOutputs file other s outputs) seen_once here.makes) b.makes,
    )
