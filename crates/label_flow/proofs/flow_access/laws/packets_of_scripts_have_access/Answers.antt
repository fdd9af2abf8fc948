use Rattle.label_flow.proofs.flow_access.Law.{packets_of_scripts_have_access as law}
use Rattle.label_flow.proofs.flow_access.laws.packets_of_scripts_have_access.Goals as goal

pub returns : goal.returns
returns c = law
