use Rattle.node_tables.proofs.Law.{bounded_commands_keep_tables_valid as law}
use Rattle.node_tables.proofs.laws.bounded_commands_keep_tables_valid.Goals as goal

pub returns : goal.returns
returns c = law
