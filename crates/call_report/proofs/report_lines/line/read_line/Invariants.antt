use Rattle.std.proofs.Common.{◌≡◌, length}
use Rattle.call_report.specs.report_lines.Form.{forms}
use Rattle.call_report.specs.report_lines.Line.{first_form}
use Rattle.call_report.proofs.report_lines.line.read_line.Given as goal

abbrev pub decreases-loop-rest : goal.decreases-loop-rest
decreases-loop-rest l = length l.rest

abbrev pub invariant-loop-rest : goal.invariant-loop-rest
invariant-loop-rest l = first_form 0 forms l.line ≡ first_form l.furthest l.rest l.line
