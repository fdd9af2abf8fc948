use Rattle.doi_table.proofs.Tables.{added}
use Rattle.doi_table.proofs.table.DoiTable.push.Goals as goal

pub returns-in-Ok-clause-ok : goal.returns-in-Ok-clause-ok
returns-in-Ok-clause-ok c =
    added c.self.inside.definitions.entries c.args.self.now c.insert.new.self.entries c.args.proto c.args.doi c.args.def c.requires c.self.view_is c.in-Ok.ensures.entries
