use Rattle.std.proofs.Common.{rules}
use Rattle.std.specs.Fmt.{digits}
use Rattle.script_lines.proofs.command_values.tags.TagListEntry.read.Goals as goal

pub returns-then-is_word-clause-value : goal.returns-then-is_word-clause-value
unfolding digits
returns-then-is_word-clause-value c = search rules

pub returns-then-is_word-2-clause-value : goal.returns-then-is_word-2-clause-value
unfolding digits
returns-then-is_word-2-clause-value c = search rules

pub returns-then-is_word-3-clause-value : goal.returns-then-is_word-3-clause-value
unfolding digits
returns-then-is_word-3-clause-value c = search rules

pub returns-else-is_word-3-clause-value : goal.returns-else-is_word-3-clause-value
unfolding digits
returns-else-is_word-3-clause-value c = search rules
