use Rattle.node_tables.proofs.Law.{found_protocols_are_defined as law}
use Rattle.node_tables.proofs.laws.found_protocols_are_defined.Goals as goal

pub returns : goal.returns
returns c = law
