use Rattle.node_tables.proofs.Defined.{kept_forgotten}
use Rattle.node_tables.proofs.tables.Tables.forget.Goals as goal

pub invariant_of-self : goal.invariant_of-self
invariant_of-self c = kept_forgotten c.self.inside.dois c.forget.new.dois c.self.inside.map c.args.proto c.args.doi c.forget.result c.forget.ensures c.self.invariant
