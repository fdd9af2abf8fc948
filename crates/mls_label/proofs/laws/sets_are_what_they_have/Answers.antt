use Rattle.mls_label.proofs.Law.{sets_are_what_they_have}
use Rattle.mls_label.proofs.laws.sets_are_what_they_have.Goals as goal

pub returns : goal.returns
returns c = sets_are_what_they_have
