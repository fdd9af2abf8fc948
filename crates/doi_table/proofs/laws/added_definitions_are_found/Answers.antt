use Rattle.doi_table.proofs.Law.{added_definitions_are_found}
use Rattle.doi_table.proofs.laws.added_definitions_are_found.Goals as goal

pub returns : goal.returns
returns c = added_definitions_are_found
