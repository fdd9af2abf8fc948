use Rattle.std.proofs.Common.{◌≡◌, ◌++◌, [], length}
use Rattle.std.specs.Prelude.{MatchBool}
use Rattle.call_report.specs.report_lines.Line.{line_words}
use Rattle.netlabel_report.specs.report_telling.Json.{members_text}
use Rattle.netlabel_report.proofs.report_telling.json.append_members.Given as goal

abbrev pub decreases-loop-slots : goal.decreases-loop-slots
decreases-loop-slots l = length l.slots

-- what was appended with what is still to be is all
abbrev pub invariant-loop-slots : goal.invariant-loop-slots
invariant-loop-slots l = MatchBool l.more
    (l.out.items ++ members_text l.slots (line_words l.text) ≡ l.initial.out.items ++ members_text l.fn.slots (line_words l.line))
    (l.out.items ++ members_text l.slots [] ≡ l.initial.out.items ++ members_text l.fn.slots (line_words l.line))
