use Rattle.node_tables.proofs.Law.{maps_name_defined_dois as law}
use Rattle.node_tables.proofs.laws.maps_name_defined_dois.Goals as goal

pub returns : goal.returns
returns c = law
