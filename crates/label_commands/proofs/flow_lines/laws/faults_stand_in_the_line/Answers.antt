use Rattle.label_commands.proofs.flow_lines.Law.{faults_stand_in_the_line}
use Rattle.label_commands.proofs.flow_lines.laws.faults_stand_in_the_line.Goals as goal

pub returns : goal.returns
returns c = faults_stand_in_the_line
