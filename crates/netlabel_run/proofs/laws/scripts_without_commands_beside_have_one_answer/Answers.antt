use Rattle.netlabel_run.proofs.Law.{scripts_without_commands_beside_have_one_answer as law}
use Rattle.netlabel_run.proofs.laws.scripts_without_commands_beside_have_one_answer.Goals as goal

pub returns : goal.returns
returns c = law
