use Rattle.netlabel_audit.proofs.Law.{whole_captures_end_no_run}
use Rattle.netlabel_audit.proofs.laws.whole_captures_end_no_run.Goals as goal

pub returns : goal.returns
returns c = whole_captures_end_no_run
