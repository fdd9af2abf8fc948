use Rattle.packet_label.proofs.Law.{labels_read_are_labels}
use Rattle.packet_label.proofs.laws.labels_read_are_labels.Goals as goal

pub returns : goal.returns
returns c = labels_read_are_labels
