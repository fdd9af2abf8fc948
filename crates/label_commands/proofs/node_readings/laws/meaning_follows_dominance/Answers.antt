use Rattle.label_commands.proofs.node_readings.Law.{meaning_follows_dominance as law}
use Rattle.label_commands.proofs.node_readings.laws.meaning_follows_dominance.Goals as goal

pub returns : goal.returns
returns c = law
