use Rattle.netlabel_run.proofs.Law.{commands_have_one_report}
use Rattle.netlabel_run.proofs.laws.commands_have_one_report.Goals as goal

pub returns : goal.returns
returns c = commands_have_one_report
