use Rattle.call_report.proofs.Law.{a_report_is_printed as law}
use Rattle.call_report.proofs.laws.a_report_is_printed.Goals as goal

pub returns : goal.returns
returns c = law
