use Rattle.std.proofs.Common.{arith}
use Rattle.call_report.proofs.report_lines.Words.{too_few}
use Rattle.call_report.proofs.report_lines.line.missing.Goals as goal

pub returns-in-len1-up : goal.returns-in-len1-up
returns-in-len1-up c = λ before. too_few c.args.end before c.args.slots.now (omega (arith, c.in-len1-up.len_at_least))
