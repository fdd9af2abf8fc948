use Rattle.label_flow.proofs.node_agreement.Law.{agreement_keeps_meaning as law}
use Rattle.label_flow.proofs.node_agreement.laws.agreement_keeps_meaning.Goals as goal

pub returns : goal.returns
returns c = law
