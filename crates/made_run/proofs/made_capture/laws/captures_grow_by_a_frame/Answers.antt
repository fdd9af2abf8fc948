use Rattle.made_run.proofs.made_capture.Law.{captures_grow_by_a_frame}
use Rattle.made_run.proofs.made_capture.laws.captures_grow_by_a_frame.Goals as goal

pub returns : goal.returns
returns c = record { none = captures_grow_by_a_frame.none; more = captures_grow_by_a_frame.more }
