use Rattle.mls_label.proofs.Law.{runs_are_no_more_than_numbers}
use Rattle.mls_label.proofs.laws.runs_are_no_more_than_numbers.Goals as goal

pub returns : goal.returns
returns c = runs_are_no_more_than_numbers
