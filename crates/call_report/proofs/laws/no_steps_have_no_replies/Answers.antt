use Rattle.call_report.proofs.Law.{no_steps_have_no_replies}
use Rattle.call_report.proofs.laws.no_steps_have_no_replies.Goals as goal

pub returns : goal.returns
returns c = no_steps_have_no_replies
