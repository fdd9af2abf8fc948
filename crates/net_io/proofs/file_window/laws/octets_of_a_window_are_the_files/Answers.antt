use Rattle.net_io.proofs.file_window.Law.{octets_of_a_window_are_the_files as law}
use Rattle.net_io.proofs.file_window.laws.octets_of_a_window_are_the_files.Goals as goal

pub returns : goal.returns
returns c = law
