use Rattle.static_law.proofs.Law.{packets_of_scripts_climb as law}
use Rattle.static_law.proofs.laws.packets_of_scripts_climb.Goals as goal

pub returns : goal.returns
returns c = law
