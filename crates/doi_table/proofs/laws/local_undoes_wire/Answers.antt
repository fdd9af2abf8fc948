use Rattle.doi_table.proofs.Law.{local_undoes_wire}
use Rattle.doi_table.proofs.laws.local_undoes_wire.Goals as goal

pub returns : goal.returns
returns c = local_undoes_wire
