use Rattle.std.proofs.Common.{refl}
use Rattle.call_report.specs.Outside.{Outside}
use Rattle.netlabel_run.proofs.Making.{ends_told, ends_untold, ends_uncreated, ends_unappended, ends_without_memory}
use Rattle.netlabel_run.proofs.make.make.Goals as goal

pub returns-in-Ok-verdicts_report : goal.returns-in-Ok-verdicts_report
returns-in-Ok-verdicts_report g c =
    let file = c.args.file.now in
    let before : Outside = record { folder = g.D.Depot.state c.args.depot.now; stream = g.S.Sink.state c.args.out.now } in
    let after : Outside = record { folder = g.D.Depot.state c.make_capture.new.depot; stream = g.S.Sink.state c.end.new.out } in
    let said = rw c.in-Ok.ensures.verdicts at c.in-Ok-verdicts_report.ensures in
    ends_told file.seed file.count file.name.now before after c.end.result c.in-Ok.ensures.capture (rw said at c.end.ensures)

pub returns-in-Err : goal.returns-in-Err
returns-in-Err g c =
    let file = c.args.file.now in
    let before : Outside = record { folder = g.D.Depot.state c.args.depot.now; stream = g.S.Sink.state c.args.out.now } in
    let after : Outside = record { folder = g.D.Depot.state c.make_capture.new.depot; stream = g.S.Sink.state c.args.out.now } in
    ends_untold file.seed file.count file.name.now before after c.in-Ok.ensures.capture refl

pub returns-in-Err-Create : goal.returns-in-Err-Create
returns-in-Err-Create g c =
    let file = c.args.file.now in
    let before : Outside = record { folder = g.D.Depot.state c.args.depot.now; stream = g.S.Sink.state c.args.out.now } in
    let after : Outside = record { folder = g.D.Depot.state c.make_capture.new.depot; stream = g.S.Sink.state c.args.out.now } in
    ends_uncreated file.seed file.count file.name.now before after (rw c.in-Err-Create.field-0-is at c.in-Err-Create.ensures.capture) refl

pub returns-in-Err-Append : goal.returns-in-Err-Append
returns-in-Err-Append g c =
    let file = c.args.file.now in
    let before : Outside = record { folder = g.D.Depot.state c.args.depot.now; stream = g.S.Sink.state c.args.out.now } in
    let after : Outside = record { folder = g.D.Depot.state c.make_capture.new.depot; stream = g.S.Sink.state c.args.out.now } in
    ends_unappended file.seed file.count file.name.now before after (rw c.in-Err-Append.field-0-is at c.in-Err-Append.ensures.capture) refl

pub returns-in-Err-OutOfMemory : goal.returns-in-Err-OutOfMemory
returns-in-Err-OutOfMemory g c =
    let file = c.args.file.now in
    let before : Outside = record { folder = g.D.Depot.state c.args.depot.now; stream = g.S.Sink.state c.args.out.now } in
    let after : Outside = record { folder = g.D.Depot.state c.make_capture.new.depot; stream = g.S.Sink.state c.args.out.now } in
    ends_without_memory file.seed file.count file.name.now before after (rw c.in-Err-OutOfMemory.field-0-is at c.in-Err-OutOfMemory.ensures.capture) refl
