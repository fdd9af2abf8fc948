use Rattle.label_commands.proofs.Law.{faults_stand_in_the_text}
use Rattle.label_commands.proofs.laws.faults_stand_in_the_text.Goals as goal

pub returns : goal.returns
returns c = faults_stand_in_the_text
