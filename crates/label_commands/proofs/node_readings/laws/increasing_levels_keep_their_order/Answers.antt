use Rattle.label_commands.proofs.node_readings.Law.{increasing_levels_keep_their_order as law}
use Rattle.label_commands.proofs.node_readings.laws.increasing_levels_keep_their_order.Goals as goal

pub returns : goal.returns
returns c = law
