use Rattle.std.proofs.Common.{◌-◌, length}
use Rattle.mls_range.proofs.Crowds.{HasTerms}
use Rattle.mls_range.proofs.terms.read_terms.Given as goal

abbrev pub invariant-loop-term : goal.invariant-loop-term
invariant-loop-term l = HasTerms l.text l.start l.at l.cats

abbrev pub decreases-loop-term : goal.decreases-loop-term
decreases-loop-term l = length l.text - l.at
