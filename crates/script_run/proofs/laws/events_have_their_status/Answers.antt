use Rattle.script_run.proofs.Law.{events_have_their_status as law}
use Rattle.script_run.proofs.laws.events_have_their_status.Goals as goal

pub returns : goal.returns
returns c = law
