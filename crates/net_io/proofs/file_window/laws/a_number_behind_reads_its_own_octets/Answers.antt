use Rattle.net_io.proofs.file_window.Law.{a_number_behind_reads_its_own_octets as law}
use Rattle.net_io.proofs.file_window.laws.a_number_behind_reads_its_own_octets.Goals as goal

pub returns : goal.returns
returns c = law
