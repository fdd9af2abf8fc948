use Rattle.label_flow.proofs.packet_walk.Law.{walks_agree_on_a_beginning as law}
use Rattle.label_flow.proofs.packet_walk.laws.walks_agree_on_a_beginning.Goals as goal

pub returns : goal.returns
returns c = law
