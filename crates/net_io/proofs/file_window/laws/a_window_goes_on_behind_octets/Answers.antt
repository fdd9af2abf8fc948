use Rattle.net_io.proofs.file_window.Law.{a_window_goes_on_behind_octets as law}
use Rattle.net_io.proofs.file_window.laws.a_window_goes_on_behind_octets.Goals as goal

pub returns : goal.returns
returns c = law
