use Rattle.call_report.specs.Outside.{Outside}
use Rattle.netlabel_report.specs.report_telling.Taking.{Standing}
use Rattle.netlabel_report.proofs.Ending.{ends_by, ends_unbegun}
use Rattle.netlabel_report.proofs.top.answer_by.Goals as goal

pub returns-in_default : goal.returns-in_default
returns-in_default g c before has =
    ends_unbegun c.args.asked.now before (record { folder = g.D.Depot.state c.args.depot.now; stream = g.S.Sink.state c.args.out.now }) c.args.commands has

pub returns : goal.returns
returns g c before has =
    let mid : Outside = record { folder = g.D.Depot.state c.args.depot.now; stream = g.S.Sink.state c.args.out.now } in
    let after : Outside = record { folder = g.D.Depot.state c.tell_all-told.new.depot; stream = g.S.Sink.state c.end_answer.new.out } in
    let s : Standing = record { progress = c.tell_all-told.new.desk.progress; tallies = c.tell_all-told.new.desk.tallies } in
    let told = rw c.new-report.ensures at c.tell_all-told.ensures.told in
    rw (← c.asked.view_is)
    (ends_by _ before mid c.args.commands (rw (← c.asked.view_is) at has) s c.tell_all-told.new.report.waiting.items (g.S.Sink.state c.tell_all-told.new.out) after c.tell_all-told.result c.end_answer.result
    told c.tell_all-told.ensures.frame (rw (← c.asked.view_is) at c.end_answer.ensures))
