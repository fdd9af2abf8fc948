use Rattle.label_commands.proofs.Law.{scripts_with_labels_are_kept}
use Rattle.label_commands.proofs.laws.scripts_with_labels_are_kept.Goals as goal

pub returns : goal.returns
returns c = scripts_with_labels_are_kept
