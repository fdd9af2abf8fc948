-- What is so of each flow that has run: its packets have access, by the laws of `flow_access` over their walks, and one whose label no option can say stays where it is.
use Rattle.std.proofs.Common.{◌≡◌, ℕ, suc, ◌+◌, ◌-◌, List, [], ◌∷◌, length, Option, Some, None, Result, Ok, Err, refl, sym, subst, arith}
use Rattle.std.specs.Prelude.{All}
use Rattle.std.proofs.lemmas.List.Elements.{All-nil, All-cons}
use Rattle.script_lines.specs.Form.{with_translations}
use Rattle.label_commands.specs.declared.script.Script.{Script}
use Rattle.label_commands.specs.declared.stop.ScriptStop.{ScriptStop}
use Rattle.label_commands.specs.declared.flow_lines.flow.FlowLine.{FlowLine}
use Rattle.call_report.specs.Report.{Folder, Versions}
use Rattle.call_report.specs.Event.{packets_limit}
use Rattle.label_flow.specs.flow_access.Valid.{IsValidFlow, plan_of}
use Rattle.label_flow.proofs.flow_access.Law.{walked_packets_have_access, flows_of_scripts_are_valid}
use Rattle.script_run.specs.flow_run.Input.{packets_in}
use Rattle.script_run.specs.flow_run.Run.{FlowRun, IsRun}
use Rattle.script_run.proofs.flow_run.Law.{runs_withhold_what_no_option_says}
use Rattle.script_run.specs.Runs.{AreRuns}
use Rattle.netlabel_run.specs.declared.command.Command.{Command}
use Rattle.netlabel_run.specs.declared.command.Command.TheVariants.{Judge, Check, Show, Agree, Make, Run}
use Rattle.call_report.specs.script_input.ScriptFile.{script_read, ByAnswer, ByScript}
use Rattle.netlabel_run.specs.Run.{AreItsRuns, HasRunAccess, RunWithholds}
use Rattle.netlabel_run.specs.Commands.{netlabel_says}

-- what is so of each run of a flow that has a property is so of all runs of flows that have it
of_runs : (script : Script) (held : Folder) (F : FlowLine → Type 0) (P : FlowRun → Type 0) → ((run : FlowRun) (lists : List (List ℕ)) → F run.flow → IsRun (plan_of script) run lists → P run)
    → (number most : ℕ) (flows : List FlowLine) (seen : Versions) (runs : List FlowRun) → All F flows → AreRuns (plan_of script) held number most flows seen runs → All P runs
of_runs script held F P each number most [] [] [] valid h = All-nil P
of_runs script held F P each number most (flow ∷ flows) [] [] valid h = All-nil P
of_runs script held F P each number most (flow ∷ flows) (lists ∷ seen) (run ∷ runs) valid h =
    All-cons P run runs
    (each run lists (subst F (sym h.1) (valid 0 flow (omega arith))) h.3)
    (of_runs script held F P each (number + 1) (most - length lists) flows seen runs (λ k d less. valid (suc k) d (omega (arith, less))) h.5)
of_runs script held F P each number most [] [] (run ∷ runs) valid h = absurd h
of_runs script held F P each number most [] (lists ∷ seen) runs valid h = absurd h
of_runs script held F P each number most (flow ∷ flows) [] (run ∷ runs) valid h = absurd h
of_runs script held F P each number most (flow ∷ flows) (lists ∷ seen) [] valid h = absurd h

-- of the runs of the script that a text is
abbrev OfItsRuns : (Script → FlowRun → Type 0) → Folder → Versions → Script → Type 0
OfItsRuns P held seen script = (runs : List FlowRun) → AreItsRuns script held seen runs → All (P script) runs

module _ (P : Script → FlowRun → Type 0) (file : List ℕ) (held : Folder) (seen : Versions) where
  of_answer : (answer : Result Script ScriptStop) → ((script : Script) → answer ≡ Ok script → OfItsRuns P held seen script) → ByAnswer answer (λ stop. Unit {0}) (OfItsRuns P held seen)
  of_answer (Err stop) each = tt
  of_answer (Ok script) each = each script refl

  -- whatever the file holds
  of_file : ((text : List ℕ) (script : Script) → script_read file text ≡ Ok script → OfItsRuns P held seen script) → (o : Option (List ℕ)) → ByScript file o (Unit {0}) (λ stop. Unit {0}) (OfItsRuns P held seen)
  of_file each None = tt
  of_file each (Some text) = of_answer (script_read file text) (each text)

-- its hops are valid
abbrev IsValid : Script → FlowLine → Type 0
IsValid script flow = IsValidFlow (plan_of script) script.readings flow.hops

runs_have_access : (file : List ℕ) (held : Folder) (seen : Versions) (text : List ℕ) (script : Script) → script_read file text ≡ Ok script → OfItsRuns HasRunAccess held seen script
runs_have_access file held seen text script is runs are =
    of_runs script held (IsValid script) (HasRunAccess script)
    (λ run lists valid h. walked_packets_have_access (plan_of script) script.readings run.flow.hops (packets_in run.input) run.pairs valid h.walked)
    1 packets_limit script.flows seen runs (flows_of_scripts_are_valid with_translations file text script is) are

runs_withhold : (held : Folder) (seen : Versions) (script : Script) → OfItsRuns RunWithholds held seen script
runs_withhold held seen script runs are =
    of_runs script held (λ flow. Unit {0}) (RunWithholds script) (λ run lists valid h. runs_withhold_what_no_option_says (plan_of script) run lists h)
    1 packets_limit script.flows seen runs (λ k d less. tt) are

-- whatever was asked for, over whatever the folder holds
pub has_access : (request : Option Command) (held : Folder) (seen : Versions) → (netlabel_says request).access held seen
has_access None held seen = tt
has_access (Some (Judge doi level file)) held seen = tt
has_access (Some (Check file)) held seen = tt
has_access (Some (Show file)) held seen = tt
has_access (Some (Agree file flow versions)) held seen = tt
has_access (Some (Make seed count file)) held seen = tt
has_access (Some (Run file workers)) held seen = of_file HasRunAccess file held seen (runs_have_access file held seen) (held file)

pub withholds : (request : Option Command) (held : Folder) (seen : Versions) → (netlabel_says request).withheld held seen
withholds None held seen = tt
withholds (Some (Judge doi level file)) held seen = tt
withholds (Some (Check file)) held seen = tt
withholds (Some (Show file)) held seen = tt
withholds (Some (Agree file flow versions)) held seen = tt
withholds (Some (Make seed count file)) held seen = tt
withholds (Some (Run file workers)) held seen = of_file RunWithholds file held seen (λ text script is. runs_withhold held seen script) (held file)
