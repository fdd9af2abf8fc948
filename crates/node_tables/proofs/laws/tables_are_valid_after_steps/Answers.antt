use Rattle.node_tables.proofs.Law.{tables_are_valid_after_steps as law}
use Rattle.node_tables.proofs.laws.tables_are_valid_after_steps.Goals as goal

pub returns : goal.returns
returns c = law
