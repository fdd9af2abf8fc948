use Rattle.static_law.proofs.Law.{packets_of_covered_flows_climb as law}
use Rattle.static_law.proofs.laws.packets_of_covered_flows_climb.Goals as goal

pub returns : goal.returns
returns c = law
