use Rattle.std.proofs.Common.{length, ap, arith}
use Rattle.node_tables.proofs.Lines.{length-pieces}
use Rattle.node_tables.proofs.list_text.ListText.count.Goals as goal

pub returns : goal.returns
returns c =
    omega (arith, c.len.ensures, c.self.inside.ends.ok.0, length-pieces 0 c.self.inside.ends.items c.self.inside.text.items, ap length c.self.view_is)
