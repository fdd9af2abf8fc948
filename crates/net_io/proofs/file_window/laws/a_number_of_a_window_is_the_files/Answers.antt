use Rattle.net_io.proofs.file_window.Law.{a_number_of_a_window_is_the_files as law}
use Rattle.net_io.proofs.file_window.laws.a_number_of_a_window_is_the_files.Goals as goal

pub returns : goal.returns
returns c = law
