use Rattle.call_report.proofs.report_lines.Law.{a_line_that_is_read_fits as law}
use Rattle.call_report.proofs.report_lines.laws.a_line_that_is_read_fits.Goals as goal

pub returns : goal.returns
returns c = law
