use Rattle.call_report.proofs.Law.{nothing_is_handed_on as law}
use Rattle.call_report.proofs.laws.nothing_is_handed_on.Goals as goal

pub returns : goal.returns
returns c d = law
