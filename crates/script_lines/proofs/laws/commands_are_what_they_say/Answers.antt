use Rattle.script_lines.proofs.Law.{commands_are_what_they_say}
use Rattle.script_lines.proofs.laws.commands_are_what_they_say.Goals as goal

pub returns : goal.returns
returns c = commands_are_what_they_say
