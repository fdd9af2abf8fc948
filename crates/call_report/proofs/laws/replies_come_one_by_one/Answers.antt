use Rattle.call_report.proofs.Law.{replies_come_one_by_one}
use Rattle.call_report.proofs.laws.replies_come_one_by_one.Goals as goal

pub returns : goal.returns
returns c = replies_come_one_by_one
