use Rattle.node_tables.proofs.Law.{steps_apply_one_by_one as law}
use Rattle.node_tables.proofs.laws.steps_apply_one_by_one.Goals as goal

pub returns : goal.returns
returns c = law
