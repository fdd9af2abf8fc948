use Rattle.label_commands.proofs.node_readings.Law.{dominance_of_meanings_goes_on as law}
use Rattle.label_commands.proofs.node_readings.laws.dominance_of_meanings_goes_on.Goals as goal

pub returns : goal.returns
returns c = law
