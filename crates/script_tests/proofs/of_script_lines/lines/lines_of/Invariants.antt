use Rattle.std.proofs.Common.{length}
use Rattle.script_tests.proofs.of_script_lines.lines.lines_of.Given as goal

abbrev pub decreases-loop-line : goal.decreases-loop-line
decreases-loop-line g l = length l.rest
