use Rattle.std.proofs.Common.{◌≡◌, ◌<◌, ◌≤◌, length}
use Rattle.std.specs.Str.Lines.{lines}
use Rattle.script_lines.specs.Form.{with_translations}
use Rattle.label_commands.specs.Above.{nothing_above}
use Rattle.label_commands.specs.Script.{read_lines}
use Rattle.label_commands.proofs.read.read_lines.Given as goal

-- what is said so far and what is left is what the whole text says
abbrev pub invariant-loop-line : goal.invariant-loop-line
invariant-loop-line l = record {
  so : read_lines with_translations l.own l.draft l.number (lines l.rest) ≡ read_lines with_translations l.own nothing_above 1 (lines l.text);
  few : l.number ≤ 16385;
  steps : length l.draft.steps < l.number;
}

abbrev pub decreases-loop-line : goal.decreases-loop-line
decreases-loop-line l = length l.rest
