use Rattle.script_run.proofs.Starting.{at_lent}
use Rattle.script_run.proofs.run.place_of.Goals as goal

pub returns-clause-flow : goal.returns-clause-flow
returns-clause-flow c =
    at_lent c.args.script.now.flows c.as_slice-flows.result.now c.args.flow c.index-flows-flow.result c.as_slice-flows.ensures (rw c.as_slice-flows.ensures c.requires.flow) c.index-flows-flow.is
