use Rattle.std.proofs.Common.{◌≡◌, take, ap, sym, ◌∙◌, rules, arith}
use Rattle.std.specs.Arc.{arc_value}
use Rattle.node_tables.specs.Steps.{tables_after}
use Rattle.shared_tables.specs.Plan.{PlanState, network_after}
use Rattle.shared_tables.proofs.Law.{beginnings_agree}
use Rattle.flow_tests.proofs.of_shared_tables.begun_at_two.Goals as goal

pub begun-requires-clause-network : goal.begun-requires-clause-network
begun-requires-clause-network g c =
    let whole : PlanState = record { nodes = 1; steps = c.args.shared.now } in
    let planned : arc_value c.expect-plan.result ≡ record { nodes = 1; steps = take 6 c.args.shared.now } = search rules in
    c.after_two-network.ensures ∙ ap (λ steps. tables_after 1 steps 2) c.as_slice.ensures ∙ sym (beginnings_agree whole 6 2 (omega arith))
    ∙ ap (λ (plan : PlanState). network_after plan 2) (sym planned)
