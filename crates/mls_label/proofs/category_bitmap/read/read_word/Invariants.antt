use Rattle.std.proofs.Common.{◌*◌, None}
use Rattle.mls_label.proofs.category_bitmap.Turns.{IsTurning}
use Rattle.mls_label.proofs.category_bitmap.read.read_word.Given as goal

abbrev pub invariant-loop-turns : goal.invariant-loop-turns
invariant-loop-turns l = IsTurning l.bitmap l.cats None (8 * l.at) l.turns

abbrev pub decreases-loop-turns : goal.decreases-loop-turns
decreases-loop-turns l = l.turns
