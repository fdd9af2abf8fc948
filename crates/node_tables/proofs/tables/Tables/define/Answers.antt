use Rattle.node_tables.proofs.Defined.{kept_defined}
use Rattle.node_tables.proofs.tables.Tables.define.Goals as goal

pub invariant_of-self : goal.invariant_of-self
invariant_of-self c = kept_defined c.self.inside.dois c.define.new.dois c.self.inside.map c.args.proto c.args.doi c.args.plan.now c.define.result c.define.ensures c.requires.given c.self.invariant
