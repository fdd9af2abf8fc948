use Rattle.std.proofs.Common.{sym, arith}
use Rattle.call_report.proofs.report_lines.Numbers.{a_number, no_number}
use Rattle.call_report.proofs.report_lines.texts.whole_number.Goals as goal

pub returns-in-Some : goal.returns-in-Some
returns-in-Some c = sym (a_number c.in-Some.number c.args.text.now (omega arith) c.in-Some.ensures.read)

pub returns-in-None : goal.returns-in-None
returns-in-None c = sym (no_number c.args.text.now c.in-None.ensures.none)
