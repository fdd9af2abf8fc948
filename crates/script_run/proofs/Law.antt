-- The laws of src/laws.rt under their names, for the crates above.
use Rattle.std.proofs.Common.{◌≡◌, ◌<◌, ℕ, List, length, Some}
use Rattle.std.specs.Prelude.{All, IsTrue, ◌==◌}
use Rattle.std.specs.List.{list_all}
use Rattle.std.proofs.lemmas.Bool.{and_parts, eqb-true}
use Rattle.label_commands.specs.declared.flow_lines.flow.FlowLine.{FlowLine}
use Rattle.label_commands.specs.declared.script.Script.{Script}
use Rattle.shared_tables.specs.Plan.{PlanState}
use Rattle.call_report.specs.Report.{Folder, Versions}
use Rattle.call_report.specs.Event.{Event, packets_limit}
use Rattle.script_run.specs.flow_run.Run.{FlowRun, goes_on}
use Rattle.label_flow.specs.flow_access.Valid.{plan_of}
use Rattle.script_run.specs.Runs.{AreRuns, AreWholeRuns, IsLawfulRun, HasNoneBeside, is_done, last_event, FlowsStatus}
use Rattle.script_run.proofs.Forced.{forced}
use Rattle.script_run.proofs.Inputs.{in_another}
use Rattle.script_run.proofs.Statuses.{one_way, event_status, done_status}

pub runs_are_determined : (plan : PlanState) (held : Folder) (number most : ℕ) (flows : List FlowLine) (seen : Versions) (runs runs' : List FlowRun) → AreRuns plan held number most flows seen runs
    → AreRuns plan held number most flows seen runs' → runs ≡ runs'
runs_are_determined = one_way

pub runs_know_their_inputs_alone : (plan : PlanState) (held other : Folder) (number most : ℕ) (flows : List FlowLine) (seen : Versions) (runs : List FlowRun) → All (λ (flow : FlowLine). held flow.input ≡ other flow.input) flows
    → AreRuns plan held number most flows seen runs → AreRuns plan other number most flows seen runs
runs_know_their_inputs_alone = in_another

pub runs_without_steps_are_forced : (script : Script) (held : Folder) (w w' : ℕ) (seen seen' : Versions) (runs runs' : List FlowRun) → HasNoneBeside script → 0 < w → 0 < w'
    → AreRuns (plan_of script) held 1 packets_limit script.flows seen runs → AreWholeRuns script runs → All (IsLawfulRun script w) runs
    → AreRuns (plan_of script) held 1 packets_limit script.flows seen' runs' → AreWholeRuns script runs' → All (IsLawfulRun script w') runs' → seen ≡ seen'
runs_without_steps_are_forced = forced

pub done_flows_have_status_0 : (script : Script) (held : Folder) (seen : Versions) (runs : List FlowRun) → AreRuns (plan_of script) held 1 packets_limit script.flows seen runs → IsTrue (is_done script runs)
    → FlowsStatus held 1 packets_limit script.flows 0
done_flows_have_status_0 script held seen runs are done =
    let both = and_parts (length runs == length script.flows) (list_all goes_on runs) done in
    done_status (plan_of script) held 1 packets_limit script.flows seen runs are (eqb-true (length runs) (length script.flows) both.0) both.1

pub events_have_their_status : (script : Script) (held : Folder) (seen : Versions) (runs : List FlowRun) (event : Event) → AreRuns (plan_of script) held 1 packets_limit script.flows seen runs → last_event runs ≡ Some event
    → FlowsStatus held 1 packets_limit script.flows event.status
events_have_their_status script held seen runs event are is = event_status (plan_of script) held 1 packets_limit script.flows seen runs event are is
