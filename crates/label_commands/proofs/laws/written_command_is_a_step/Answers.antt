use Rattle.label_commands.proofs.Law.{written_command_is_a_step}
use Rattle.label_commands.proofs.laws.written_command_is_a_step.Goals as goal

pub returns : goal.returns
returns c = written_command_is_a_step
