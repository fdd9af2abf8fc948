use Rattle.net_io.proofs.file_window.Law.{a_written_number_reads_back as law}
use Rattle.net_io.proofs.file_window.laws.a_written_number_reads_back.Goals as goal

pub returns : goal.returns
returns c = law
