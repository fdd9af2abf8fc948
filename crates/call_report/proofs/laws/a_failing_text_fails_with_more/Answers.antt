use Rattle.call_report.proofs.Law.{a_failing_text_fails_with_more as law}
use Rattle.call_report.proofs.laws.a_failing_text_fails_with_more.Goals as goal

pub returns : goal.returns
returns c d = law
