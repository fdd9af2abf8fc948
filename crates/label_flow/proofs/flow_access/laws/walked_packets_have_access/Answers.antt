use Rattle.label_flow.proofs.flow_access.Law.{walked_packets_have_access as law}
use Rattle.label_flow.proofs.flow_access.laws.walked_packets_have_access.Goals as goal

pub returns : goal.returns
returns c = law
