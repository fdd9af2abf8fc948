use Rattle.label_send.proofs.Law.{inexpressible_labels_stay}
use Rattle.label_send.proofs.laws.inexpressible_labels_stay.Goals as goal

pub returns : goal.returns
returns c = inexpressible_labels_stay
