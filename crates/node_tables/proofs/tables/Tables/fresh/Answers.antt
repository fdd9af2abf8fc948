use Rattle.node_tables.proofs.Defined.{kept_fresh}
use Rattle.node_tables.proofs.tables.Tables.fresh.Goals as goal

pub invariant_of-result : goal.invariant_of-result
invariant_of-result c = kept_fresh c.empty.result c.empty-2.result c.empty.ensures c.empty-2.ensures
