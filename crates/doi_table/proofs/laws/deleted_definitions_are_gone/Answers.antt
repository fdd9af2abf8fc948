use Rattle.doi_table.proofs.Law.{deleted_definitions_are_gone}
use Rattle.doi_table.proofs.laws.deleted_definitions_are_gone.Goals as goal

pub returns : goal.returns
returns c = deleted_definitions_are_gone
