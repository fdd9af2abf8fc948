use Rattle.node_tables.proofs.Defined.{kept_left}
use Rattle.node_tables.proofs.tables.Tables.del_entry.Goals as goal

pub invariant_of-self : goal.invariant_of-self
invariant_of-self c = kept_left c.self.inside.dois c.self.inside.map c.del_entry.new.map c.args.domain.now c.args.prefix c.del_entry.result c.del_entry.ensures c.self.invariant
