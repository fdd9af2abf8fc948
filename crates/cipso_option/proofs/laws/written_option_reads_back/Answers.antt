use Rattle.cipso_option.proofs.Law.{written_option_reads_back}
use Rattle.cipso_option.proofs.laws.written_option_reads_back.Goals as goal

pub returns : goal.returns
returns c = written_option_reads_back
