use Rattle.label_flow.proofs.Law.{walked_packets_are_determined as law}
use Rattle.label_flow.proofs.laws.walked_packets_are_determined.Goals as goal

pub returns : goal.returns
returns c = law
