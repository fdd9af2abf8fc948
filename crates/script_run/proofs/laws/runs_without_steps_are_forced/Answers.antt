use Rattle.script_run.proofs.Law.{runs_without_steps_are_forced as law}
use Rattle.script_run.proofs.laws.runs_without_steps_are_forced.Goals as goal

pub returns : goal.returns
returns c = law
