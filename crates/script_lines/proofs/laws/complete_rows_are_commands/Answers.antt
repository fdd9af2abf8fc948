use Rattle.script_lines.proofs.Law.{complete_rows_are_commands}
use Rattle.script_lines.proofs.laws.complete_rows_are_commands.Goals as goal

pub returns : goal.returns
returns c = complete_rows_are_commands
