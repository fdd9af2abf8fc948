use Rattle.std.proofs.Common.{sym, ◌∙◌, arith}
use Rattle.call_report.proofs.report_lines.Words.{one_too_many}
use Rattle.call_report.proofs.report_lines.line.misfit_of.Goals as goal

pub returns : goal.returns
returns c = sym (c.loop-rest.invariant.left ∙ one_too_many c.loop-rest.at c.loop-rest.before.now c.loop-rest.rest.now c.loop-rest.text.now (omega arith))
