use Rattle.cipso_tags.proofs.Law.{written_tag_reads_back}
use Rattle.cipso_tags.proofs.laws.written_tag_reads_back.Goals as goal

pub returns : goal.returns
returns c = written_tag_reads_back
