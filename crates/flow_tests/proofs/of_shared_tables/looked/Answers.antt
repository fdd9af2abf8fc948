use Rattle.std.proofs.Common.{arith, length, ap}
use Rattle.node_tables.proofs.Law.{nodes_keep_their_number}
use Rattle.flow_tests.proofs.of_shared_tables.looked.Goals as goal

pub look-requires : goal.look-requires
look-requires g c v network from to is =
    let plan = c.args.viewer.now.plan in
    omega (arith, ap length is, nodes_keep_their_number plan.nodes plan.steps v, c.requires)
