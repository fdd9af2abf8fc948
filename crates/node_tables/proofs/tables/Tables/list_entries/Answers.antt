use Rattle.node_tables.proofs.Defined.{no_zero_of}
use Rattle.node_tables.proofs.tables.Tables.list_entries.Goals as goal

pub list_entries-requires : goal.list_entries-requires
list_entries-requires c = no_zero_of c.self.inside.dois c.self.inside.map c.self.invariant.defined c.self.invariant.given
