use Rattle.std.proofs.Common.{◌≡◌, ◌+◌, [], length}
use Rattle.call_report.specs.report_lines.Line.{line_words, misfit_of}
use Rattle.call_report.proofs.report_lines.line.misfit_of.Given as goal

abbrev pub decreases-loop-rest : goal.decreases-loop-rest
decreases-loop-rest l = length l.rest

-- what the words so far leave of the slots and of the line
abbrev pub invariant-loop-rest : goal.invariant-loop-rest
invariant-loop-rest l = record {
  place : l.at + length l.text ≡ length l.line;
  left : misfit_of 0 [] l.slots (line_words l.line) ≡ misfit_of l.at l.before l.rest (line_words l.text);
}
