use Rattle.call_report.proofs.report_lines.Law.{joined_words_are_read_back as law}
use Rattle.call_report.proofs.report_lines.laws.joined_words_are_read_back.Goals as goal

pub returns : goal.returns
returns c = law
