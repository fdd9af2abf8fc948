use Rattle.std.proofs.Common.{sym, ◌∙◌}
use Rattle.node_tables.proofs.Law.{nodes_begin_fresh}
use Rattle.made_run.proofs.Commands.{step_fits, step_more}
use Rattle.made_run.proofs.node.network_after.Goals as goal

pub loop-step-init : goal.loop-step-init
loop-step-init c = record { applied = c.in_ok-network.ensures ∙ sym (nodes_begin_fresh 1 c.args.steps.now) }

pub apply-requires : goal.apply-requires
apply-requires c = step_fits c.args.steps.now c.loop-step.step-index _ _ c.requires c.loop-step-test.true c.step-item.is c.loop-step.invariant.applied

pub loop-step-preserved : goal.loop-step-preserved
loop-step-preserved c =
    record { applied = step_more c.args.steps.now c.loop-step.step-index _ _ _ c.loop-step-test.true c.step-item.is c.loop-step.invariant.applied c.in_ok-_reply.ensures.tables }
