use Rattle.node_tables.proofs.Law.{range_ends_are_labels as law}
use Rattle.node_tables.proofs.laws.range_ends_are_labels.Goals as goal

pub returns : goal.returns
returns c = law
