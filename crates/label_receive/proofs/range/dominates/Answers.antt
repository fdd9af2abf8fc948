use Rattle.label_receive.proofs.Orders.{is_dominates}
use Rattle.label_receive.proofs.range.dominates.Goals as goal

pub returns : goal.returns
returns c = is_dominates c.dominates.result c.args.a.now c.args.b.now c.dominates.ensures
