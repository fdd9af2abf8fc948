use Rattle.std.proofs.Common.{arith, sym, ◌∙◌}
use Rattle.node_tables.proofs.Law.{nodes_begin_fresh}
use Rattle.label_flow.proofs.packet_walk.step_tables.StepTables.fresh.Goals as goal

pub invariant_of-result : goal.invariant_of-result
invariant_of-result c = (omega arith, c.requires.few, c.requires.inside, c.in_ok-network.ensures ∙ sym (nodes_begin_fresh c.args.nodes c.args.steps.now))
