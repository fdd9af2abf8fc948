use Rattle.doi_table.proofs.Law.{wire_labels_are_labels}
use Rattle.doi_table.proofs.laws.wire_labels_are_labels.Goals as goal

pub returns : goal.returns
returns c = wire_labels_are_labels
