use Rattle.std.proofs.Common.{refl, arith}
use Rattle.captures.specs.declared.fault.ReadStop.TheVariants.{ReadFault}
use Rattle.call_report.specs.Outside.{Outside}
use Rattle.netlabel_run.proofs.Shown.{unmoved, shows_start, ends_unbegun, ends_at_end, ends_at_stop, ends_at_limit, shows_next, ends_at_write}
use Rattle.netlabel_run.proofs.show.show.Goals as goal

pub returns-in-Err : goal.returns-in-Err
returns-in-Err g c =
    let before : Outside = record { folder = g.D.Depot.state c.args.depot.now; stream = g.S.Sink.state c.args.out.now } in
    let after : Outside = record { folder = g.D.Depot.state c.begin.new.depot; stream = g.S.Sink.state c.end_stopped.new.out } in
    let clauses = c.in-Err.ensures in
    ends_unbegun c.args.file.now before after c.in-Err.stop c.end_stopped.result clauses.frame clauses.answer
    (rw c.new-report.ensures at c.end_stopped.ensures)

pub loop-head-init : goal.loop-head-init
loop-head-init g c =
    let before : Outside = record { folder = g.D.Depot.state c.args.depot.now; stream = g.S.Sink.state c.args.out.now } in
    let now : Outside = record { folder = g.D.Depot.state c.begin.new.depot; stream = g.S.Sink.state c.args.out.now } in
    let clauses = c.in-Ok.ensures in
    record {
      showing = shows_start c.args.file.now before now c.in-Ok.reader c.new-report.result.waiting.items clauses.name c.new-report.ensures refl
          (unmoved ReadFault c.in-Ok.reader c.args.file.now before.folder now.folder clauses.frame) clauses.answer;
      ready = clauses.ready;
    }

pub returns-in-Ok-None : goal.returns-in-Ok-None
returns-in-Ok-None g c =
    let head = c.loop-head in
    let before : Outside = record { folder = g.D.Depot.state c.args.depot.now; stream = g.S.Sink.state c.args.out.now } in
    let now : Outside = record { folder = g.D.Depot.state head.depot; stream = g.S.Sink.state head.out } in
    let after : Outside = record { folder = g.D.Depot.state c.next.new.depot; stream = g.S.Sink.state c.end_whole.new.out } in
    let clauses = rw c.in-Ok-None.field-0-is at c.in-Ok-None.ensures in
    ends_at_end c.args.file.now before now after head.reader head.report.waiting.items head.shown head.invariant.showing c.next.new.into c.next.new.self c.end_whole.result
    clauses.frame clauses.answer c.end_whole.ensures

pub returns-in-Err-next : goal.returns-in-Err-next
returns-in-Err-next g c =
    let head = c.loop-head in
    let before : Outside = record { folder = g.D.Depot.state c.args.depot.now; stream = g.S.Sink.state c.args.out.now } in
    let now : Outside = record { folder = g.D.Depot.state head.depot; stream = g.S.Sink.state head.out } in
    let after : Outside = record { folder = g.D.Depot.state c.next.new.depot; stream = g.S.Sink.state c.end_stopped-in-Err-next.new.out } in
    let clauses = c.in-Err-next.ensures in
    ends_at_stop c.args.file.now before now after head.reader head.report.waiting.items head.shown head.invariant.showing c.in-Err-next.stop c.next.new.into c.next.new.self
    c.end_stopped-in-Err-next.result clauses.frame clauses.answer c.end_stopped-in-Err-next.ensures

pub returns-then-shown-eq-PACKETS_LIMIT : goal.returns-then-shown-eq-PACKETS_LIMIT
returns-then-shown-eq-PACKETS_LIMIT g c =
    let head = c.loop-head in
    let before : Outside = record { folder = g.D.Depot.state c.args.depot.now; stream = g.S.Sink.state c.args.out.now } in
    let now : Outside = record { folder = g.D.Depot.state head.depot; stream = g.S.Sink.state head.out } in
    let after : Outside = record { folder = g.D.Depot.state c.next.new.depot; stream = g.S.Sink.state c.end.new.out } in
    let clauses = rw c.in-Ok-Some.field-0-is at c.in-Ok-Some.ensures in
    ends_at_limit c.args.file.now before now after head.reader head.report.waiting.items head.shown head.invariant.showing c.in-Ok-Some._head c.next.new.into c.next.new.self c.end.result
    (omega (arith, c.if-shown-eq-PACKETS_LIMIT.true)) clauses.frame clauses.answer (rw c.packets_limit.ensures at c.end.ensures)

pub loop-head-preserved : goal.loop-head-preserved
loop-head-preserved g c =
    let head = c.loop-head in
    let before : Outside = record { folder = g.D.Depot.state c.args.depot.now; stream = g.S.Sink.state c.args.out.now } in
    let now : Outside = record { folder = g.D.Depot.state head.depot; stream = g.S.Sink.state head.out } in
    let after : Outside = record { folder = g.D.Depot.state c.next.new.depot; stream = g.S.Sink.state c.add_packet.new.out } in
    let clauses = rw c.in-Ok-Some.field-0-is at c.in-Ok-Some.ensures in
    let packet = c.in-Ok-add_packet.ensures in
    record {
      showing = shows_next c.args.file.now before now after head.reader head.report.waiting.items head.shown head.invariant.showing c.in-Ok-Some._head c.next.new.into c.next.new.self
          packet.0 (omega (arith, head.invariant.showing.few, c.if-shown-eq-PACKETS_LIMIT.false)) clauses.frame clauses.answer clauses.format packet.1
          c.add_packet.new.report.waiting.items c.in-Ok-add_packet.field-0 clauses.name packet.2;
      ready = clauses.ready;
    }

pub returns-in-Err-add_packet : goal.returns-in-Err-add_packet
returns-in-Err-add_packet g c =
    let head = c.loop-head in
    let before : Outside = record { folder = g.D.Depot.state c.args.depot.now; stream = g.S.Sink.state c.args.out.now } in
    let now : Outside = record { folder = g.D.Depot.state head.depot; stream = g.S.Sink.state head.out } in
    let after : Outside = record { folder = g.D.Depot.state c.next.new.depot; stream = g.S.Sink.state c.add_packet.new.out } in
    let clauses = rw c.in-Ok-Some.field-0-is at c.in-Ok-Some.ensures in
    let packet = c.in-Err-add_packet.ensures in
    rw c.after_write.ensures
    (ends_at_write c.args.file.now before now after head.reader head.report.waiting.items head.shown head.invariant.showing c.in-Ok-Some._head c.next.new.into c.next.new.self
    packet.0 (omega (arith, head.invariant.showing.few, c.if-shown-eq-PACKETS_LIMIT.false)) clauses.frame clauses.answer clauses.format packet.1
    c.add_packet.new.report.waiting.items c.in-Err-add_packet.fault packet.2)
