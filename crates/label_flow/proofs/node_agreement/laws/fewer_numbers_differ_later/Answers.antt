use Rattle.label_flow.proofs.node_agreement.Law.{fewer_numbers_differ_later as law}
use Rattle.label_flow.proofs.node_agreement.laws.fewer_numbers_differ_later.Goals as goal

pub returns : goal.returns
returns c = law
