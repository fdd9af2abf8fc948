use Rattle.label_flow.proofs.flow_access.Law.{flows_of_scripts_are_valid as law}
use Rattle.label_flow.proofs.flow_access.laws.flows_of_scripts_are_valid.Goals as goal

pub returns : goal.returns
returns c = law
