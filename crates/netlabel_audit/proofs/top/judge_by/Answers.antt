use Rattle.call_report.specs.Outside.{Outside}
use Rattle.netlabel_audit.proofs.Ending.{ends_told}
use Rattle.netlabel_audit.proofs.top.judge_by.Goals as goal

pub returns : goal.returns
returns g c before has =
    let mid : Outside = record { folder = g.D.Depot.state c.args.depot.now; stream = g.S.Sink.state c.args.out.now } in
    let after : Outside = record { folder = g.D.Depot.state c.find_verdict-found.new.depot; stream = g.S.Sink.state c.tell.new.out } in
    ends_told c.args.asked.now before mid after c.args.script.now has c.find_verdict-found.result c.tell.result c.find_verdict-found.ensures.frame c.find_verdict-found.ensures.found c.find_verdict-found.ensures.may c.tell.ensures
