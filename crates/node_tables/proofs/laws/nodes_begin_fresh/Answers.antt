use Rattle.node_tables.proofs.Law.{nodes_begin_fresh as law}
use Rattle.node_tables.proofs.laws.nodes_begin_fresh.Goals as goal

pub returns : goal.returns
returns c = law
