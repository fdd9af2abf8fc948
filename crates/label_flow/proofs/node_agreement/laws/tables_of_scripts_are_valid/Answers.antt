use Rattle.label_flow.proofs.node_agreement.Law.{tables_of_scripts_are_valid as law}
use Rattle.label_flow.proofs.node_agreement.laws.tables_of_scripts_are_valid.Goals as goal

pub returns : goal.returns
returns c = law
