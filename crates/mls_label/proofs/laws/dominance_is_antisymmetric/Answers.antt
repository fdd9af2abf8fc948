use Rattle.mls_label.proofs.Law.{dominance_is_antisymmetric}
use Rattle.mls_label.proofs.laws.dominance_is_antisymmetric.Goals as goal

pub returns : goal.returns
returns c = dominance_is_antisymmetric
