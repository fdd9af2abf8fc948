use Rattle.domain_map.proofs.Law.{found_labels_are_those_of_an_entry as law}
use Rattle.domain_map.proofs.laws.found_labels_are_those_of_an_entry.Goals as goal

pub returns : goal.returns
returns c = law
