use Rattle.call_report.proofs.Law.{a_text_begins_a_report as law}
use Rattle.call_report.proofs.laws.a_text_begins_a_report.Goals as goal

pub returns : goal.returns
returns c d = law
