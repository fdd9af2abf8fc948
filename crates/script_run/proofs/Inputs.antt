-- Flows know no more of a folder than the files that they read.
use Rattle.std.proofs.Common.{◌≡◌, ℕ, ◌+◌, ◌-◌, List, [], ◌∷◌, length, All, ap, ◌∙◌}
use Rattle.std.proofs.lemmas.List.Elements.{All-head, All-tail}
use Rattle.label_commands.specs.declared.flow_lines.flow.FlowLine.{FlowLine}
use Rattle.shared_tables.specs.Plan.{PlanState}
use Rattle.call_report.specs.Report.{Folder, Versions}
use Rattle.script_run.specs.flow_run.Input.{flow_input}
use Rattle.script_run.specs.flow_run.Run.{FlowRun}
use Rattle.script_run.specs.Runs.{AreRuns}

pub in_another : (plan : PlanState) (held other : Folder) (number most : ℕ) (flows : List FlowLine) (seen : Versions) (runs : List FlowRun) → All (λ (flow : FlowLine). held flow.input ≡ other flow.input) flows
    → AreRuns plan held number most flows seen runs → AreRuns plan other number most flows seen runs
in_another plan held other number most [] [] [] same are = are
in_another plan held other number most [] [] (run ∷ runs) same are = absurd are
in_another plan held other number most [] (lists ∷ seen) [] same are = absurd are
in_another plan held other number most [] (lists ∷ seen) (run ∷ runs) same are = absurd are
in_another plan held other number most (flow ∷ flows) [] [] same are = are
in_another plan held other number most (flow ∷ flows) [] (run ∷ runs) same are = absurd are
in_another plan held other number most (flow ∷ flows) (lists ∷ seen) [] same are = absurd are
in_another plan held other number most (flow ∷ flows) (lists ∷ seen) (run ∷ runs) same are =
    let P = λ (f : FlowLine). held f.input ≡ other f.input in (
      are.0,
      are.1,
      are.2 ∙ ap (flow_input number most) (All-head P flow flows same),
      are.3,
      are.4,
      in_another plan held other (number + 1) (most - length lists) flows seen runs (All-tail P flow flows same) are.5,
    )
