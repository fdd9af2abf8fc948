use Rattle.static_law.proofs.Law.{covered_is_told_exactly_where_each_link_is as law}
use Rattle.static_law.proofs.laws.covered_is_told_exactly_where_each_link_is.Goals as goal

pub returns : goal.returns
returns c = law
