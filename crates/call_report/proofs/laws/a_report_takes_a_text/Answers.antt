use Rattle.call_report.proofs.Law.{a_report_takes_a_text as law}
use Rattle.call_report.proofs.laws.a_report_takes_a_text.Goals as goal

pub returns : goal.returns
returns c = law
