use Rattle.std.proofs.Common.{arith, length, ap}
use Rattle.node_tables.proofs.Law.{nodes_keep_their_number}
use Rattle.label_flow.proofs.packet_walk.look.judge_at.Goals as goal

pub look-requires : goal.look-requires
look-requires c v x from to is = omega (arith, c.requires, ap length is, nodes_keep_their_number c.args.viewer.now.plan.nodes c.args.viewer.now.plan.steps v)
