use Rattle.node_tables.proofs.Law.{only_done_changes_tables as law}
use Rattle.node_tables.proofs.laws.only_done_changes_tables.Goals as goal

pub returns : goal.returns
returns c = law
