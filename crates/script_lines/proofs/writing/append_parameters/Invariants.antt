use Rattle.std.proofs.Common.{◌≡◌, ◌++◌, All, length}
use Rattle.script_lines.specs.Value.{IsValue}
use Rattle.script_lines.specs.inside.Extends.{Extends}
use Rattle.script_lines.specs.inside.Written.{spaced_words}
use Rattle.script_lines.proofs.writing.append_parameters.Given as goal

-- what is written, and the words of the rest
abbrev pub invariant-loop-rest : goal.invariant-loop-rest
invariant-loop-rest l = record {
  words : l.out.items ++ spaced_words l.rest l.fields ≡ l.fn.out.items ++ spaced_words l.slots l.fields;
  extends : Extends l.fn.out.items l.out.items;
  values : All (λ slot. IsValue slot.parameter l.fields) l.rest → All (λ slot. IsValue slot.parameter l.fields) l.slots;
}

abbrev pub decreases-loop-rest : goal.decreases-loop-rest
decreases-loop-rest l = length l.rest
