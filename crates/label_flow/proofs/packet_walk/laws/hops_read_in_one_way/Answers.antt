use Rattle.label_flow.proofs.packet_walk.Law.{hops_read_in_one_way as law}
use Rattle.label_flow.proofs.packet_walk.laws.hops_read_in_one_way.Goals as goal

pub returns : goal.returns
returns c = law
