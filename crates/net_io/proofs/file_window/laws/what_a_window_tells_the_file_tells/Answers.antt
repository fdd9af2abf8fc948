use Rattle.net_io.proofs.file_window.Law.{what_a_window_tells_the_file_tells as law}
use Rattle.net_io.proofs.file_window.laws.what_a_window_tells_the_file_tells.Goals as goal

pub returns : goal.returns
returns c d = law
