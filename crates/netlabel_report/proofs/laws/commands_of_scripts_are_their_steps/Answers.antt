use Rattle.netlabel_report.proofs.Law.{commands_of_scripts_are_their_steps}
use Rattle.netlabel_report.proofs.laws.commands_of_scripts_are_their_steps.Goals as goal

pub returns : goal.returns
returns c = commands_of_scripts_are_their_steps
