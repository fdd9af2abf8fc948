use Rattle.label_send.proofs.Law.{outgoing_labels_can_be_said}
use Rattle.label_send.proofs.laws.outgoing_labels_can_be_said.Goals as goal

pub returns : goal.returns
returns c = outgoing_labels_can_be_said
