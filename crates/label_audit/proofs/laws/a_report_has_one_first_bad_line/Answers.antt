use Rattle.label_audit.proofs.Law.{a_report_has_one_first_bad_line as law}
use Rattle.label_audit.proofs.laws.a_report_has_one_first_bad_line.Goals as goal

pub returns : goal.returns
returns c = law
