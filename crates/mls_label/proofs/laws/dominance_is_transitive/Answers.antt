use Rattle.mls_label.proofs.Law.{dominance_is_transitive}
use Rattle.mls_label.proofs.laws.dominance_is_transitive.Goals as goal

pub returns : goal.returns
returns c = dominance_is_transitive
