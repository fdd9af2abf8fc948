use Rattle.std.proofs.Common.{◌≡◌, ◌+◌, ◌≤◌, ◌++◌, None, length}
use Rattle.std.specs.Str.Lines.{lines}
use Rattle.netlabel_report.specs.Places.{places_from}
use Rattle.netlabel_report.proofs.script.places_of.Given as goal

-- those of the lines so far, with those of the lines that are left, are those of all lines
abbrev pub invariant-loop-line : goal.invariant-loop-line
invariant-loop-line l = record {
  so : l.places.items ++ places_from l.node l.number (lines l.rest) ≡ places_from None 1 (lines l.text);
  few : l.number + length l.rest ≤ length l.text + 1;
}

abbrev pub decreases-loop-line : goal.decreases-loop-line
decreases-loop-line l = length l.rest
