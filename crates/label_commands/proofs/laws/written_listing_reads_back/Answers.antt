use Rattle.label_commands.proofs.Law.{written_listing_reads_back}
use Rattle.label_commands.proofs.laws.written_listing_reads_back.Goals as goal

pub returns : goal.returns
returns c = written_listing_reads_back
