use Rattle.doi_table.proofs.Law.{local_labels_go_by_numbers}
use Rattle.doi_table.proofs.laws.local_labels_go_by_numbers.Goals as goal

pub returns : goal.returns
returns c = local_labels_go_by_numbers
