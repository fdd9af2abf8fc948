use Rattle.mls_label.proofs.Law.{sets_of_a_test_have_what_passes}
use Rattle.mls_label.proofs.laws.sets_of_a_test_have_what_passes.Goals as goal

pub returns : goal.returns
returns c = sets_of_a_test_have_what_passes
