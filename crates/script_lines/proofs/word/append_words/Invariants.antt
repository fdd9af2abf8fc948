use Rattle.std.proofs.Common.{◌≡◌, ◌+◌, ◌++◌, length}
use Rattle.script_lines.specs.Word.{words_from, words_of_line}
use Rattle.script_lines.proofs.word.append_words.Given as goal

-- what was gathered, and the words of the rest
abbrev pub invariant-loop-end : goal.invariant-loop-end
invariant-loop-end l = record {
  place : l.at + length l.rest ≡ length l.line;
  words : l.words.items ++ words_from l.at l.rest ≡ l.fn.words.items ++ words_of_line l.line;
}

abbrev pub decreases-loop-end : goal.decreases-loop-end
decreases-loop-end l = length l.rest
