use Rattle.script_lines.proofs.Law.{written_command_is_plain}
use Rattle.script_lines.proofs.laws.written_command_is_plain.Goals as goal

pub returns : goal.returns
returns c = written_command_is_plain
