use Rattle.mls_range.proofs.Law.{written_label_reads_back}
use Rattle.mls_range.proofs.laws.written_label_reads_back.Goals as goal

pub returns : goal.returns
returns c = written_label_reads_back
