use Rattle.static_law.proofs.Law.{covered_walks_climb as law}
use Rattle.static_law.proofs.laws.covered_walks_climb.Goals as goal

pub returns : goal.returns
returns c = law
