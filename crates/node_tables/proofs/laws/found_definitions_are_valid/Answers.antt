use Rattle.node_tables.proofs.Law.{found_definitions_are_valid as law}
use Rattle.node_tables.proofs.laws.found_definitions_are_valid.Goals as goal

pub returns : goal.returns
returns c = law
