use Rattle.std.proofs.Common.{◌≡◌, ◌≤◌, ◌++◌, ◌-◌, length, drop}
use Rattle.call_report.specs.Lines.Reply.{listed_lines}
use Rattle.call_report.specs.inside.Extends.{Extends}
use Rattle.call_report.proofs.reply.append_lines.Given as goal

abbrev pub decreases-loop-written : goal.decreases-loop-written
decreases-loop-written l = length l.initial.lines - l.written

-- what is there with the lines from here on is what is to be there
abbrev pub invariant-loop-written : goal.invariant-loop-written
invariant-loop-written l = record {
  within : l.written ≤ length l.lines;
  extends : Extends l.initial.out.items l.out.items;
  whole : l.out.items ++ listed_lines (drop l.written l.lines) ≡ l.initial.out.items ++ listed_lines l.lines;
}
