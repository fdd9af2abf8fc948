use Rattle.mls_label.proofs.category_bitmap.Places.{ones_bits}
use Rattle.mls_label.proofs.category_bitmap.write.ones.Goals as goal

pub returns : goal.returns
returns c = λ k lt. ones_bits c.args.first c.args.last k c.requires.order c.requires.places lt
