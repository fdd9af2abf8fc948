use Rattle.label_commands.proofs.flow_lines.Law.{hops_stand_behind_the_names as law}
use Rattle.label_commands.proofs.flow_lines.laws.hops_stand_behind_the_names.Goals as goal

pub returns : goal.returns
returns c = law
