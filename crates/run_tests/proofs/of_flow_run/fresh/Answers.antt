use Rattle.std.proofs.Common.{sym, ◌∙◌}
use Rattle.node_tables.proofs.Law.{nodes_begin_fresh}
use Rattle.run_tests.proofs.of_flow_run.fresh.Goals as goal

pub returns : goal.returns
returns g c =
    let is = rw c.expect.ensures at c.fresh.ensures in
    is ∙ sym (nodes_begin_fresh 1 c.args.steps.now)
