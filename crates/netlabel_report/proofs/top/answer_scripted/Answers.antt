use Rattle.std.proofs.Common.{ℕ, [], Some, subst, sym}
use Rattle.call_report.specs.CallEnds.{CallEnds}
use Rattle.call_report.specs.Outside.{Outside}
use Rattle.netlabel_report.specs.Says.{report_says}
use Rattle.netlabel_report.proofs.Ending.{ends_scriptless}
use Rattle.netlabel_report.proofs.top.answer_scripted.Goals as goal

pub returns-in-Ok : goal.returns-in-Ok
returns-in-Ok g c =
    let before : Outside = record { folder = g.D.Depot.state c.args.depot.now; stream = g.S.Sink.state c.args.out.now } in
    c.answer_by.ensures before (rw c.requires c.in-Ok.ensures.ok)

pub returns-in-Err : goal.returns-in-Err
returns-in-Err g c =
    let before : Outside = record { folder = g.D.Depot.state c.args.depot.now; stream = g.S.Sink.state c.args.out.now } in
    let after : Outside = record { folder = g.D.Depot.state c.commands_of.new.depot; stream = g.S.Sink.state c.commands_of.new.out } in
    subst (λ (n : ℕ). CallEnds report_says (Some c.args.asked.now) before after n []) (sym c.number.ensures)
    (ends_scriptless c.args.asked.now c.args.script.now c.requires before after c.in-Err.status c.in-Err.ensures.err)
