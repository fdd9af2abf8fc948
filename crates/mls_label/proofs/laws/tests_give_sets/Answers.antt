use Rattle.mls_label.proofs.Law.{tests_give_sets}
use Rattle.mls_label.proofs.laws.tests_give_sets.Goals as goal

pub returns : goal.returns
returns c = tests_give_sets
