use Rattle.label_commands.proofs.Law.{commands_are_of_their_edition as law}
use Rattle.label_commands.proofs.laws.commands_are_of_their_edition.Goals as goal

pub returns : goal.returns
returns c = law
