use Rattle.label_commands.proofs.Law.{no_meanings_are_a_reading as law}
use Rattle.label_commands.proofs.laws.no_meanings_are_a_reading.Goals as goal

pub returns : goal.returns
returns c = law
