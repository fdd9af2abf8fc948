use Rattle.made_run.proofs.made_capture.Law.{made_captures_read_back}
use Rattle.made_run.proofs.made_capture.laws.made_captures_read_back.Goals as goal

pub returns : goal.returns
returns c = made_captures_read_back
