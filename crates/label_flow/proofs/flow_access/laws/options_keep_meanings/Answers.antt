use Rattle.label_flow.proofs.flow_access.Law.{options_keep_meanings as law}
use Rattle.label_flow.proofs.flow_access.laws.options_keep_meanings.Goals as goal

pub returns : goal.returns
returns c = law
