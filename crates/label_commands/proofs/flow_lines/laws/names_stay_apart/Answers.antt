use Rattle.label_commands.proofs.flow_lines.Law.{names_stay_apart}
use Rattle.label_commands.proofs.flow_lines.laws.names_stay_apart.Goals as goal

pub returns : goal.returns
returns c = names_stay_apart
