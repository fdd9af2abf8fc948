use Rattle.script_lines.proofs.Law.{commands_are_bounded as law}
use Rattle.script_lines.proofs.laws.commands_are_bounded.Goals as goal

pub returns : goal.returns
returns c = law
