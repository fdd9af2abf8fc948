use Rattle.mls_label.proofs.category_bitmap.Written.{needs_highest}
use Rattle.mls_label.proofs.category_bitmap.write.octets_of.Goals as goal

pub returns-in-Some : goal.returns-in-Some
returns-in-Some c =
    needs_highest c.args.cats.now c.in-Some.category c.in-Some.ensures.0 c.in-Some.ensures.1
