use Rattle.doi_table.proofs.Law.{wire_labels_go_by_numbers}
use Rattle.doi_table.proofs.laws.wire_labels_go_by_numbers.Goals as goal

pub returns : goal.returns
returns c = wire_labels_go_by_numbers
