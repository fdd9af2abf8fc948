use Rattle.mls_label.proofs.category_bitmap.Marks.{HasRun}
use Rattle.mls_label.proofs.category_bitmap.write.set_run.Given as goal

abbrev pub invariant-loop-at : goal.invariant-loop-at
invariant-loop-at l = HasRun l.fn.bitmap l.bitmap l.first l.last l.at
