use Rattle.std.proofs.Common.{refl}
use Rattle.call_report.specs.Outside.{Outside}
use Rattle.ripso_border_run.proofs.Beginning.{ends_unread_input, ends_short_input, ends_no_capture, ends_unmade, ends_short_output, starts}
use Rattle.ripso_border_run.proofs.run.cross_capture.Goals as goal

pub returns-in-Err-Capture : goal.returns-in-Err-Capture
returns-in-Err-Capture g c before planned same stream =
    let start : Outside = record { folder = g.D.Depot.state c.args.depot.now; stream = g.S.Sink.state c.args.out.now } in
    let mid : Outside = record { folder = g.D.Depot.state c.begin.new.depot; stream = g.S.Sink.state c.end_refused.new.out } in
    let clauses = rw (c.in-Err-Capture.field-0-is, c.as_str.ensures) at c.in-Err-Capture.ensures in
    ends_no_capture c.args.task.now c.args.border.now.definition.now before start mid mid planned same stream _ clauses.frame _ c.end_refused.result (λ failed. absurd cc) clauses.answer clauses.present c.end_refused.ensures

pub returns-in-Err-ReadFault : goal.returns-in-Err-ReadFault
returns-in-Err-ReadFault g c before planned same stream =
    let start : Outside = record { folder = g.D.Depot.state c.args.depot.now; stream = g.S.Sink.state c.args.out.now } in
    let mid : Outside = record { folder = g.D.Depot.state c.begin.new.depot; stream = g.S.Sink.state c.args.out.now } in
    let clauses = rw (c.in-Err-ReadFault.field-0-is, c.as_str.ensures) at c.in-Err-ReadFault.ensures in
    ends_unread_input c.args.task.now c.args.border.now.definition.now before start mid mid planned same stream _ clauses.frame refl refl

pub returns-in-Err-OutOfMemory : goal.returns-in-Err-OutOfMemory
returns-in-Err-OutOfMemory g c before planned same stream =
    let start : Outside = record { folder = g.D.Depot.state c.args.depot.now; stream = g.S.Sink.state c.args.out.now } in
    let mid : Outside = record { folder = g.D.Depot.state c.begin.new.depot; stream = g.S.Sink.state c.args.out.now } in
    let clauses = rw (c.in-Err-OutOfMemory.field-0-is, c.as_str.ensures) at c.in-Err-OutOfMemory.ensures in
    ends_short_input c.args.task.now c.args.border.now.definition.now before start mid mid planned same stream _ clauses.frame (λ failed. absurd cc) refl

pub returns-in-Ok-create_capture : goal.returns-in-Ok-create_capture
returns-in-Ok-create_capture g c before planned same stream =
    let start : Outside = record { folder = g.D.Depot.state c.args.depot.now; stream = g.S.Sink.state c.args.out.now } in
    let mid : Outside = record { folder = g.D.Depot.state c.begin.new.depot; stream = g.S.Sink.state c.args.out.now } in
    let after : Outside = record { folder = g.D.Depot.state c.create_capture.new.depot; stream = g.S.Sink.state c.args.out.now } in
    let read = rw c.as_str.ensures at c.in-Ok.ensures in
    let made = rw c.as_str-2.ensures at c.in-Ok-create_capture.ensures in
    c.cross_frames.ensures before
    (starts c.args.task.now c.args.border.now.definition.now before start mid after planned same stream c.in-Ok.frames read.frame c.in-Ok-create_capture.waits c.in-Ok-create_capture.waits.items _ c.nanos.ensures made.head read.place read.answer read.present made.made made.frame refl)

pub returns-in-Err-Failed : goal.returns-in-Err-Failed
returns-in-Err-Failed g c before planned same stream =
    let start : Outside = record { folder = g.D.Depot.state c.args.depot.now; stream = g.S.Sink.state c.args.out.now } in
    let mid : Outside = record { folder = g.D.Depot.state c.begin.new.depot; stream = g.S.Sink.state c.args.out.now } in
    let after : Outside = record { folder = g.D.Depot.state c.create_capture.new.depot; stream = g.S.Sink.state c.args.out.now } in
    let read = rw c.as_str.ensures at c.in-Ok.ensures in
    let made = rw (c.in-Err-Failed.field-0-is, c.as_str-2.ensures) at c.in-Err-Failed.ensures in
    ends_unmade c.args.task.now c.args.border.now.definition.now before start mid after planned same stream c.in-Ok.frames read.frame _ made.frame made.kept refl refl

pub returns : goal.returns
returns g c before planned same stream =
    let start : Outside = record { folder = g.D.Depot.state c.args.depot.now; stream = g.S.Sink.state c.args.out.now } in
    let mid : Outside = record { folder = g.D.Depot.state c.begin.new.depot; stream = g.S.Sink.state c.args.out.now } in
    let after : Outside = record { folder = g.D.Depot.state c.create_capture.new.depot; stream = g.S.Sink.state c.args.out.now } in
    let read = rw c.as_str.ensures at c.in-Ok.ensures in
    let made = rw (c.in-Err-OutOfMemory-create_capture.field-0-is, c.as_str-2.ensures) at c.in-Err-OutOfMemory-create_capture.ensures in
    ends_short_output c.args.task.now c.args.border.now.definition.now before start mid after planned same stream c.in-Ok.frames read.frame _ made.frame made.kept refl (λ failed. absurd cc)
