use Rattle.label_commands.proofs.Law.{numbers_of_scripts_are_bounded as law}
use Rattle.label_commands.proofs.laws.numbers_of_scripts_are_bounded.Goals as goal

pub returns : goal.returns
returns c = law
