use Rattle.label_flow.proofs.node_agreement.Law.{one_difference_is_first as law}
use Rattle.label_flow.proofs.node_agreement.laws.one_difference_is_first.Goals as goal

pub returns : goal.returns
returns c = law
