use Rattle.script_run.proofs.flow_run.Law.{outputs_are_of_packets_that_passed}
use Rattle.script_run.proofs.flow_run.laws.outputs_are_of_packets_that_passed.Goals as goal

pub returns : goal.returns
returns c = outputs_are_of_packets_that_passed
