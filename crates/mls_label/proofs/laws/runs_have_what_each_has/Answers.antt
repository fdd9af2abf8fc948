use Rattle.mls_label.proofs.Law.{runs_have_what_each_has}
use Rattle.mls_label.proofs.laws.runs_have_what_each_has.Goals as goal

pub returns : goal.returns
returns c = runs_have_what_each_has
