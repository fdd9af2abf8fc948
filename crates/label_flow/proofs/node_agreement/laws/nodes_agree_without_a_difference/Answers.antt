use Rattle.label_flow.proofs.node_agreement.Law.{nodes_agree_without_a_difference as law}
use Rattle.label_flow.proofs.node_agreement.laws.nodes_agree_without_a_difference.Goals as goal

pub returns : goal.returns
returns c = law
