use Rattle.std.proofs.Common.{rules}
use Rattle.label_flow.proofs.Told.{part_cut}
use Rattle.label_flow.proofs.work.Batch.packets_at.Goals as goal

pub returns : goal.returns
returns c = rw c.deref.ensures.value (part_cut c.args.place c.min-end.result c.args.self.now.packets.items (search rules))
