use Rattle.script_run.proofs.Law.{runs_are_determined as law}
use Rattle.script_run.proofs.laws.runs_are_determined.Goals as goal

pub returns : goal.returns
returns c = law
