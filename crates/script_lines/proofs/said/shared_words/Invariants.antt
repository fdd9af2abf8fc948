use Rattle.std.proofs.Common.{◌≡◌, ◌+◌, length, map}
use Rattle.std.specs.List.{common_prefix_len}
use Rattle.script_lines.specs.Said.{is_spelled}
use Rattle.script_lines.proofs.said.shared_words.Given as goal

-- those that were counted, and those of the rest
abbrev pub invariant-loop-fixed : goal.invariant-loop-fixed
invariant-loop-fixed l = record {
  shared : common_prefix_len is_spelled (map (λ word. word.now) l.fn.fixed) (map (λ word. word.text) l.fn.words) ≡ l.count + common_prefix_len is_spelled (map (λ word. word.now) l.fixed) (map (λ word. word.text) l.words);
  fixed : length l.fn.fixed ≡ l.count + length l.fixed;
  words : length l.fn.words ≡ l.count + length l.words;
}

abbrev pub decreases-loop-fixed : goal.decreases-loop-fixed
decreases-loop-fixed l = length l.fixed
