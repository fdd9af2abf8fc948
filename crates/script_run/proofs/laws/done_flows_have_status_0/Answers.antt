use Rattle.script_run.proofs.Law.{done_flows_have_status_0 as law}
use Rattle.script_run.proofs.laws.done_flows_have_status_0.Goals as goal

pub returns : goal.returns
returns c = law
