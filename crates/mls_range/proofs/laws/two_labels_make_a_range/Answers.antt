use Rattle.mls_range.proofs.Law.{two_labels_make_a_range}
use Rattle.mls_range.proofs.laws.two_labels_make_a_range.Goals as goal

pub returns : goal.returns
returns c = two_labels_make_a_range
