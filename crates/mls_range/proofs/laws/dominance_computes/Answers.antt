use Rattle.mls_range.proofs.Law.{dominance_computes}
use Rattle.mls_range.proofs.laws.dominance_computes.Goals as goal

pub returns : goal.returns
returns c = dominance_computes
