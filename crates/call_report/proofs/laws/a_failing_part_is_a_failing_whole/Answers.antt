use Rattle.call_report.proofs.Law.{a_failing_part_is_a_failing_whole as law}
use Rattle.call_report.proofs.laws.a_failing_part_is_a_failing_whole.Goals as goal

pub returns : goal.returns
returns c = law
