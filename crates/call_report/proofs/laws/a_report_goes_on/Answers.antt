use Rattle.call_report.proofs.Law.{a_report_goes_on as law}
use Rattle.call_report.proofs.laws.a_report_goes_on.Goals as goal

pub returns : goal.returns
returns c d = λ text waits a b way line still x e hands. law text waits a b way line still x e hands
