use Rattle.mls_range.proofs.Law.{range_texts_compute}
use Rattle.mls_range.proofs.laws.range_texts_compute.Goals as goal

pub returns : goal.returns
returns c = range_texts_compute
