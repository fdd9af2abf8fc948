use Rattle.label_commands.proofs.node_readings.Law.{meanings_have_what_categories_mean as law}
use Rattle.label_commands.proofs.node_readings.laws.meanings_have_what_categories_mean.Goals as goal

pub returns : goal.returns
returns c = law
