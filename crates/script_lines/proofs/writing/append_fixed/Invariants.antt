use Rattle.std.proofs.Common.{◌≡◌, ◌∷◌, ◌++◌, length, flat_map}
use Rattle.script_lines.specs.inside.Extends.{Extends}
use Rattle.script_lines.proofs.writing.append_fixed.Given as goal

-- what is written, and the words of the rest, each behind a space
abbrev pub invariant-loop-rest : goal.invariant-loop-rest
invariant-loop-rest l = record {
  words : l.out.items ++ flat_map (λ word. 32 ∷ word.now) l.rest ≡ l.initial.out.items ++ flat_map (λ word. 32 ∷ word.now) l.initial.rest;
  extends : Extends l.fn.out.items l.out.items;
}

abbrev pub decreases-loop-rest : goal.decreases-loop-rest
decreases-loop-rest l = length l.rest
