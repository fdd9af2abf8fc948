use Rattle.made_run.proofs.made_capture.Law.{shorter_captures_begin_longer_ones}
use Rattle.made_run.proofs.made_capture.laws.shorter_captures_begin_longer_ones.Goals as goal

pub returns : goal.returns
returns c = shorter_captures_begin_longer_ones
