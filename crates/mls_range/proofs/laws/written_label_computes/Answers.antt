use Rattle.mls_range.proofs.Law.{written_label_computes}
use Rattle.mls_range.proofs.laws.written_label_computes.Goals as goal

pub returns : goal.returns
returns c = written_label_computes
