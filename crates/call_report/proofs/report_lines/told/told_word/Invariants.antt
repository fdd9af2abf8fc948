use Rattle.std.proofs.Common.{◌≡◌, [], length}
use Rattle.std.specs.Prelude.{MatchBool}
use Rattle.call_report.specs.report_lines.Line.{line_words}
use Rattle.call_report.specs.report_lines.Told.{told_word}
use Rattle.call_report.proofs.report_lines.told.told_word.Given as goal

abbrev pub decreases-loop-slots : goal.decreases-loop-slots
decreases-loop-slots l = length l.slots

-- what the rest tells is what the whole tells
abbrev pub invariant-loop-slots : goal.invariant-loop-slots
invariant-loop-slots l = MatchBool l.more
    (told_word l.field l.fn.slots (line_words l.line) ≡ told_word l.field l.slots (line_words l.text))
    (told_word l.field l.fn.slots (line_words l.line) ≡ told_word l.field l.slots [])
