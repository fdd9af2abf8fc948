use Rattle.mls_label.proofs.Law.{equal_tests_give_equal_sets}
use Rattle.mls_label.proofs.laws.equal_tests_give_equal_sets.Goals as goal

pub returns : goal.returns
returns c = equal_tests_give_equal_sets
