use Rattle.std.proofs.Common.{arith, None}
use Rattle.made_run.proofs.Sends.{appended_more}
use Rattle.made_run.proofs.Steps.{maker_more, batch_more, begun_within}
use Rattle.made_run.proofs.source.fill.Goals as goal

pub returns-in-Err-clause-begun : goal.returns-in-Err-clause-begun
returns-in-Err-clause-begun g c =
    begun_within c.args.source.now.maker c.loop.source.maker c.loop.counter c.args.count c.args.name.now (g.D.Depot.state c.make_next.new.depot) c.loop.invariant.maker c.loop-test.true c.in-Err.ensures.begun

pub loop-preserved : goal.loop-preserved
loop-preserved g c =
    let was = c.loop.invariant in
    let more = c.in-Ok.ensures in
    record {
      within = omega (arith, c.loop-test.true);
      maker = maker_more c.args.source.now.maker c.loop.source.maker c.make_next.new.source.maker c.loop.counter was.maker more.maker;
      packets = batch_more c.args.source.now.maker c.loop.source.maker c.loop.counter _ _ was.maker was.packets more.packet;
      sent = more.sent;
      appended = appended_more c.args.name.now None _ _ _ was.appended more.appended;
    }
