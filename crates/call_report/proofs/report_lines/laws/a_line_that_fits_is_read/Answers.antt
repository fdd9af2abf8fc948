use Rattle.call_report.proofs.report_lines.Law.{a_line_that_fits_is_read as law}
use Rattle.call_report.proofs.report_lines.laws.a_line_that_fits_is_read.Goals as goal

pub returns : goal.returns
returns c = law
