use Rattle.netlabel_run.proofs.Law.{versions_without_commands_beside_are_forced as law}
use Rattle.netlabel_run.proofs.laws.versions_without_commands_beside_are_forced.Goals as goal

pub returns : goal.returns
returns c = law
