use Rattle.netlabel_audit.proofs.Law.{events_of_captures_are_those_of_a_run}
use Rattle.netlabel_audit.proofs.laws.events_of_captures_are_those_of_a_run.Goals as goal

pub returns : goal.returns
returns c = events_of_captures_are_those_of_a_run
