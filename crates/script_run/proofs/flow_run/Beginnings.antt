-- A beginning of a plan has its tables.
use Rattle.std.proofs.Common.{◌≡◌, ℕ, ◌≤◌, List, take, sym, ap, ◌∙◌}
use Rattle.script_lines.specs.declared.command.Step.{Step}
use Rattle.node_tables.specs.Tables.{TableState}
use Rattle.node_tables.specs.Steps.{tables_after}
use Rattle.shared_tables.specs.Plan.{PlanState}
use Rattle.shared_tables.proofs.Law.{beginnings_agree}

-- the tables in front of a flow, by the steps up to the next one
pub board_tables : (plan : PlanState) (nodes m k : ℕ) (steps : List Step) (network : List TableState)
    → (let made : PlanState = record { nodes = nodes; steps = take m steps } in plan ≡ made) → k ≤ m → network ≡ tables_after nodes steps k → network ≡ tables_after plan.nodes plan.steps k
board_tables plan nodes m k steps network made within is =
    is
    ∙ sym (beginnings_agree (record { nodes = nodes; steps = steps }) m k within)
    ∙ ap (λ (p : PlanState). tables_after p.nodes p.steps k) (sym made)
