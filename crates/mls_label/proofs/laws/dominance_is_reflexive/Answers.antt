use Rattle.mls_label.proofs.Law.{dominance_is_reflexive}
use Rattle.mls_label.proofs.laws.dominance_is_reflexive.Goals as goal

pub returns : goal.returns
returns c = dominance_is_reflexive
