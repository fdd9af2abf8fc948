use Rattle.call_report.proofs.Law.{a_part_of_a_text_is_a_front as law}
use Rattle.call_report.proofs.laws.a_part_of_a_text_is_a_front.Goals as goal

pub returns : goal.returns
returns c = law
