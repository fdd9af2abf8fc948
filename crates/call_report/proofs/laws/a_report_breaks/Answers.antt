use Rattle.call_report.proofs.Law.{a_report_breaks as law}
use Rattle.call_report.proofs.laws.a_report_breaks.Goals as goal

pub returns : goal.returns
returns c = law
