use Rattle.node_tables.proofs.Law.{nodes_keep_their_number as law}
use Rattle.node_tables.proofs.laws.nodes_keep_their_number.Goals as goal

pub returns : goal.returns
returns c = law
