use Rattle.static_law.proofs.Law.{one_reason_is_first as law}
use Rattle.static_law.proofs.laws.one_reason_is_first.Goals as goal

pub returns : goal.returns
returns c = law
