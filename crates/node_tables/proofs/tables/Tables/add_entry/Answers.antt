use Rattle.node_tables.proofs.Defined.{kept_entered}
use Rattle.node_tables.proofs.tables.Tables.add_entry.Goals as goal

pub invariant_of-self : goal.invariant_of-self
invariant_of-self c = kept_entered c.self.inside.dois c.self.inside.map c.add_entry.new.map c.args.domain.now c.args.prefix c.args.protocol c.add_entry.result c.add_entry.ensures c.self.invariant
