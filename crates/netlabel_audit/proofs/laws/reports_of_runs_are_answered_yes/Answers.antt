use Rattle.netlabel_audit.proofs.Law.{reports_of_runs_are_answered_yes}
use Rattle.netlabel_audit.proofs.laws.reports_of_runs_are_answered_yes.Goals as goal

pub returns : goal.returns
returns c = reports_of_runs_are_answered_yes
