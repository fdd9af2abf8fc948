use Rattle.call_report.proofs.Law.{less_of_a_text_is_less_of_more as law}
use Rattle.call_report.proofs.laws.less_of_a_text_is_less_of_more.Goals as goal

pub returns : goal.returns
returns c = law
