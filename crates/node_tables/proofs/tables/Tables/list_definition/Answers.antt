use Rattle.std.proofs.Common.{sym}
use Rattle.node_tables.proofs.Defined.{given_of}
use Rattle.node_tables.proofs.tables.Tables.list_definition.Goals as goal

pub push_definition-requires : goal.push_definition-requires
push_definition-requires c = given_of c.self.inside.dois c.args.proto c.get-doi.result c.in-Some.def.now c.self.invariant.given (sym c.in-Some.ensures)
