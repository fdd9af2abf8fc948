use Rattle.std.proofs.Common.{length, arith, ap}
use Rattle.node_tables.proofs.Lines.{length-pieces}
use Rattle.node_tables.proofs.list_text.ListText.line.Goals as goal

pub piece-requires-clause-within : goal.piece-requires-clause-within
piece-requires-clause-within c =
    omega (arith, c.requires, length-pieces 0 c.self.inside.ends.items c.self.inside.text.items, ap length c.self.view_is, ap length c.deref-2.ensures.value)
