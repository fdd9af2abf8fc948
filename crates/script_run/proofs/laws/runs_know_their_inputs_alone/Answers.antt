use Rattle.script_run.proofs.Law.{runs_know_their_inputs_alone as law}
use Rattle.script_run.proofs.laws.runs_know_their_inputs_alone.Goals as goal

pub returns : goal.returns
returns c = law
