use Rattle.std.proofs.Common.{arith, length, ap}
use Rattle.shared_tables.specs.Plan.{PlanState}
use Rattle.node_tables.proofs.Law.{nodes_keep_their_number}
use Rattle.label_flow.proofs.packet_walk.step_tables.StepTables.judge_under.Goals as goal

pub hop_into-lent-requires : goal.hop_into-lent-requires
hop_into-lent-requires c =
    let p = c.forward_to.new.self.plan in
    omega (arith, c.requires.node, ap (λ (q : PlanState). q.nodes) c.in_ok-forward_to.ensures.plan, ap length c.network-tables.ensures, nodes_keep_their_number p.nodes p.steps c.forward_to.new.self.version)
