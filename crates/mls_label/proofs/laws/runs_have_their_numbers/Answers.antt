use Rattle.mls_label.proofs.Law.{runs_have_their_numbers}
use Rattle.mls_label.proofs.laws.runs_have_their_numbers.Goals as goal

pub returns : goal.returns
returns c = runs_have_their_numbers
