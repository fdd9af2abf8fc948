use Rattle.doi_table.proofs.Law.{wire_undoes_local}
use Rattle.doi_table.proofs.laws.wire_undoes_local.Goals as goal

pub returns : goal.returns
returns c = wire_undoes_local
