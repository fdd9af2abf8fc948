use Rattle.static_law.proofs.Law.{reasons_uncover as law}
use Rattle.static_law.proofs.laws.reasons_uncover.Goals as goal

pub returns : goal.returns
returns c = law
