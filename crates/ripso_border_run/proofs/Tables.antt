-- Each step of a script is one of its nodes'.
use Rattle.std.proofs.Common.{◌≡◌, ◌<◌, ℕ, List, length, get_or, ap, subst, ◌∙◌, arith}
use Rattle.std.specs.Prelude.{All}
use Rattle.script_lines.specs.declared.command.Step.{Step}
use Rattle.node_tables.specs.Tables.{TableState}
use Rattle.node_tables.specs.Steps.{tables_after}
use Rattle.node_tables.proofs.Law.{nodes_keep_their_number}

pub step_within : (nodes : ℕ) (steps : List Step) (step : Step) (k : ℕ) (network : List TableState) → network ≡ tables_after nodes steps k → All (λ (s : Step). s.node < nodes) steps
    → get_or steps k step ≡ step → k < length steps → step.node < length network
step_within nodes steps step k network are all is within =
    let one : step.node < nodes = subst (λ (s : Step). s.node < nodes) is (all k step within) in
    omega (arith, one, ap length are ∙ nodes_keep_their_number nodes steps k)
