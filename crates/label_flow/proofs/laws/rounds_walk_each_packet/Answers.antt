use Rattle.label_flow.proofs.Law.{rounds_walk_each_packet as law}
use Rattle.label_flow.proofs.laws.rounds_walk_each_packet.Goals as goal

pub returns : goal.returns
returns c = law
