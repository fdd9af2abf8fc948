use Rattle.label_commands.proofs.node_readings.Law.{meanings_dominate_themselves as law}
use Rattle.label_commands.proofs.node_readings.laws.meanings_dominate_themselves.Goals as goal

pub returns : goal.returns
returns c = law
