use Rattle.net_io.proofs.file_window.Law.{a_window_is_a_front_of_the_rest as law}
use Rattle.net_io.proofs.file_window.laws.a_window_is_a_front_of_the_rest.Goals as goal

pub returns : goal.returns
returns c = law
