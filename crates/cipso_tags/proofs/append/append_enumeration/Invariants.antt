use Rattle.cipso_tags.proofs.Runs.{IsLeft}
use Rattle.cipso_tags.proofs.append.append_enumeration.Given as goal

abbrev pub invariant-loop-i : goal.invariant-loop-i
invariant-loop-i g l = IsLeft l.cats l.fn.out.items l.out.items l.i
