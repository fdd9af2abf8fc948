use Rattle.label_send.proofs.Law.{labels_that_stay_are_inexpressible}
use Rattle.label_send.proofs.laws.labels_that_stay_are_inexpressible.Goals as goal

pub returns : goal.returns
returns c = labels_that_stay_are_inexpressible
