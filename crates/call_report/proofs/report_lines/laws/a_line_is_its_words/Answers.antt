use Rattle.call_report.proofs.report_lines.Law.{a_line_is_its_words as law}
use Rattle.call_report.proofs.report_lines.laws.a_line_is_its_words.Goals as goal

pub returns : goal.returns
returns c = law
