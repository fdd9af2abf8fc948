use Rattle.std.proofs.Common.{length}
use Rattle.mls_label.proofs.category_bitmap.Marks.{HasRuns}
use Rattle.mls_label.proofs.category_bitmap.write.set_cats.Given as goal

abbrev pub invariant-loop-i : goal.invariant-loop-i
invariant-loop-i l = HasRuns l.cats l.bitmap (length l.fn.bitmap) l.i
