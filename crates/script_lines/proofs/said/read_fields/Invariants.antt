use Rattle.std.proofs.Common.{◌≡◌, length}
use Rattle.script_lines.specs.Form.{with_translations}
use Rattle.script_lines.specs.Fields.{no_fields}
use Rattle.script_lines.specs.Said.{with_words}
use Rattle.script_lines.proofs.said.read_fields.Given as goal

-- the walk of all words is the walk of the rest from here
abbrev pub invariant-loop-rest : goal.invariant-loop-rest
invariant-loop-rest l = with_words with_translations l.slots l.words no_fields ≡ with_words with_translations l.slots l.rest l.fields

abbrev pub decreases-loop-rest : goal.decreases-loop-rest
decreases-loop-rest l = length l.rest
