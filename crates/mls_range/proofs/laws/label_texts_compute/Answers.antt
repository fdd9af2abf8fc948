use Rattle.mls_range.proofs.Law.{label_texts_compute}
use Rattle.mls_range.proofs.laws.label_texts_compute.Goals as goal

pub returns : goal.returns
returns c = label_texts_compute
