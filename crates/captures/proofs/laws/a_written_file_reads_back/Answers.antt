use Rattle.captures.proofs.Law.{a_written_file_reads_back}
use Rattle.captures.proofs.laws.a_written_file_reads_back.Goals as goal

pub returns : goal.returns
returns c = a_written_file_reads_back
