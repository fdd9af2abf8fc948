use Rattle.call_report.proofs.Law.{texts_join as law}
use Rattle.call_report.proofs.laws.texts_join.Goals as goal

pub returns : goal.returns
returns c d = law
