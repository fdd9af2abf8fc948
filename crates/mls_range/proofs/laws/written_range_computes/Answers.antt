use Rattle.mls_range.proofs.Law.{written_range_computes}
use Rattle.mls_range.proofs.laws.written_range_computes.Goals as goal

pub returns : goal.returns
returns c = written_range_computes
