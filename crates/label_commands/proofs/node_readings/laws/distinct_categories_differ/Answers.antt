use Rattle.label_commands.proofs.node_readings.Law.{distinct_categories_differ as law}
use Rattle.label_commands.proofs.node_readings.laws.distinct_categories_differ.Goals as goal

pub returns : goal.returns
returns c = law
