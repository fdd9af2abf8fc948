use Rattle.domain_map.proofs.address_text.Law.{written_prefix_reads_back}
use Rattle.domain_map.proofs.address_text.laws.written_prefix_reads_back.Goals as goal

pub returns : goal.returns
returns c = written_prefix_reads_back
