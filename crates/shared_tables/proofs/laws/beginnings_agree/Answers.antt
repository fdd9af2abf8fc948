use Rattle.shared_tables.proofs.Law.{beginnings_agree as law}
use Rattle.shared_tables.proofs.laws.beginnings_agree.Goals as goal

pub returns : goal.returns
returns c = law
