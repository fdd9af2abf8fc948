use Rattle.std.proofs.Common.{rules, ap, sym, ◌∙◌}
use Rattle.std.specs.Prelude.{replicate}
use Rattle.std.specs.Arc.{arc_value}
use Rattle.node_tables.specs.Tables.{fresh}
use Rattle.node_tables.proofs.Law.{nodes_begin_fresh}
use Rattle.shared_tables.specs.Plan.{PlanState}
use Rattle.flow_tests.proofs.of_label_flow.fresh.Goals as goal

pub returns : goal.returns
returns g c =
    let p : PlanState = arc_value c.args.plan.now in
    search (rules, ap (λ n. replicate n fresh) (sym c.requires) ∙ sym (nodes_begin_fresh p.nodes p.steps))
