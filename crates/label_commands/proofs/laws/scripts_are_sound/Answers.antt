use Rattle.label_commands.proofs.Law.{scripts_are_sound}
use Rattle.label_commands.proofs.laws.scripts_are_sound.Goals as goal

pub returns : goal.returns
returns c = scripts_are_sound
