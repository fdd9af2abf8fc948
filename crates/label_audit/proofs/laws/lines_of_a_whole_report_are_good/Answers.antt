use Rattle.label_audit.proofs.Law.{lines_of_a_whole_report_are_good as law}
use Rattle.label_audit.proofs.laws.lines_of_a_whole_report_are_good.Goals as goal

pub returns : goal.returns
returns c = law
