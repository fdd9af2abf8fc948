use Rattle.call_report.specs.Outside.{Outside}
use Rattle.netlabel_report.proofs.Ending.{nothing_found}
use Rattle.netlabel_report.proofs.top.answer.Goals as goal

pub returns-in-None : goal.returns-in-None
returns-in-None g c =
    let before : Outside = record { folder = g.D.Depot.state c.args.depot.now; stream = g.S.Sink.state c.args.out.now } in
    c.answer_by.ensures before (rw c.unknown.ensures (nothing_found c.args.asked.now before c.in-None.is))
