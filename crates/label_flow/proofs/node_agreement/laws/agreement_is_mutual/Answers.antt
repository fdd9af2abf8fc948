use Rattle.label_flow.proofs.node_agreement.Law.{agreement_is_mutual as law}
use Rattle.label_flow.proofs.node_agreement.laws.agreement_is_mutual.Goals as goal

pub returns : goal.returns
returns c = law
