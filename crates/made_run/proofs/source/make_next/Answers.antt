use Rattle.std.proofs.Common.{◌+◌, arith}
use Rattle.made_run.specs.Ends.{stop_of}
use Rattle.made_run.proofs.Steps.{sent_next, sent_begins, sent_if, begun_next, begun_up_to}
use Rattle.made_run.proofs.source.make_next.Goals as goal

pub returns-in_default-clause-begun : goal.returns-in_default-clause-begun
returns-in_default-clause-begun g c =
    let maker = c.args.source.now.maker in
    begun_up_to maker.seed maker.made (maker.made + 1) c.args.name.now (g.D.Depot.state c.args.depot.now) (omega arith)
    (sent_begins maker c.args.waiting.now.items c.args.name.now (g.D.Depot.state c.args.depot.now) c.requires.sent)

pub returns-then-len-lt-PIECE-clause-sent : goal.returns-then-len-lt-PIECE-clause-sent
returns-then-len-lt-PIECE-clause-sent g c =
    sent_next c.args.source.now.maker c.make_one.new.source.maker c.args.waiting.now.items c.make_one.new.waiting.items c.args.name.now (g.D.Depot.state c.args.depot.now) c.in-Ok.ensures.maker c.in-Ok.ensures.frame c.requires.sent

pub returns-then-len-lt-PIECE-clause-begun : goal.returns-then-len-lt-PIECE-clause-begun
returns-then-len-lt-PIECE-clause-begun g c =
    let maker = c.args.source.now.maker in
    begun_up_to maker.seed maker.made (maker.made + 1) c.args.name.now (g.D.Depot.state c.args.depot.now) (omega arith)
    (sent_begins maker c.args.waiting.now.items c.args.name.now (g.D.Depot.state c.args.depot.now) c.requires.sent)

pub returns-clause-sent : goal.returns-clause-sent
returns-clause-sent g c =
    let folder = g.D.Depot.state c.args.depot.now in
    let sent = sent_next c.args.source.now.maker c.make_one.new.source.maker c.args.waiting.now.items c.make_one.new.waiting.items c.args.name.now folder c.in-Ok.ensures.maker c.in-Ok.ensures.frame c.requires.sent in
    sent_if c.append_waiting.result c.make_one.new.source.maker c.make_one.new.waiting.items c.append_waiting.new.waiting.items c.args.name.now folder (g.D.Depot.state c.append_waiting.new.depot) c.append_waiting.ensures sent

pub returns-clause-begun : goal.returns-clause-begun
returns-clause-begun g c =
    let folder = g.D.Depot.state c.args.depot.now in
    let sent = sent_next c.args.source.now.maker c.make_one.new.source.maker c.args.waiting.now.items c.make_one.new.waiting.items c.args.name.now folder c.in-Ok.ensures.maker c.in-Ok.ensures.frame c.requires.sent in
    begun_next (stop_of c.append_waiting.result) c.args.source.now.maker c.make_one.new.source.maker c.make_one.new.waiting.items c.append_waiting.new.waiting.items c.args.name.now folder (g.D.Depot.state c.append_waiting.new.depot)
    c.in-Ok.ensures.maker c.append_waiting.ensures sent
