use Rattle.doi_table.proofs.Law.{local_labels_are_labels}
use Rattle.doi_table.proofs.laws.local_labels_are_labels.Goals as goal

pub returns : goal.returns
returns c = local_labels_are_labels
