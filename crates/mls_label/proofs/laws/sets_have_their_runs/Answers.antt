use Rattle.mls_label.proofs.Law.{sets_have_their_runs}
use Rattle.mls_label.proofs.laws.sets_have_their_runs.Goals as goal

pub returns : goal.returns
returns c = sets_have_their_runs
