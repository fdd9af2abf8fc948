use Rattle.std.proofs.Common.{[], refl}
use Rattle.call_report.specs.Outside.{Outside}
use Rattle.call_report.specs.declared.status.Status.TheVariants.{OutOfMemory}
use Rattle.call_report.proofs.Law.{only_read, no_memory_for_a_report}
use Rattle.call_report.specs.script_input.Ends.{unread, without_memory}
use Rattle.call_report.proofs.script_input.Reading.{too_long, stopped}
use Rattle.call_report.proofs.script_input.script.script_with_text.Goals as goal

pub returns-in-Err-TooLong-clause-err : goal.returns-in-Err-TooLong-clause-err
returns-in-Err-TooLong-clause-err g c =
    let file = c.args.file.now in
    let before : Outside = record { folder = g.D.Depot.state c.args.depot.now; stream = g.S.Sink.state c.args.out.now } in
    let after : Outside = record { folder = g.D.Depot.state c.read_whole.new.depot; stream = g.S.Sink.state c.end_refused.new.out } in
    let clauses = rw c.in-Err-TooLong.field-0-is at c.in-Err-TooLong.ensures in
    record {
      reads = only_read _ _ file before.folder after.folder c.in-Err-TooLong.ensures.frame;
      told = c.end_refused.ensures.told;
      why = too_long file before after c.end_refused.result (clauses.too_long refl) (clauses.frame.reads.still (λ failed. absurd cc)) c.end_refused.ensures;
    }

pub returns-in-Err-Failed-clause-err : goal.returns-in-Err-Failed-clause-err
returns-in-Err-Failed-clause-err g c =
    let file = c.args.file.now in
    let before : Outside = record { folder = g.D.Depot.state c.args.depot.now; stream = g.S.Sink.state c.args.out.now } in
    let after : Outside = record { folder = g.D.Depot.state c.read_whole.new.depot; stream = g.S.Sink.state c.args.out.now } in
    let clauses = rw c.in-Err-Failed.field-0-is at c.in-Err-Failed.ensures in
    record {
      reads = only_read _ _ file before.folder after.folder c.in-Err-Failed.ensures.frame;
      told = refl;
      why = unread refl (clauses.frame.reads.cause refl) refl;
    }

pub returns-in-Err-OutOfMemory-clause-err : goal.returns-in-Err-OutOfMemory-clause-err
returns-in-Err-OutOfMemory-clause-err g c =
    let file = c.args.file.now in
    let before : Outside = record { folder = g.D.Depot.state c.args.depot.now; stream = g.S.Sink.state c.args.out.now } in
    let after : Outside = record { folder = g.D.Depot.state c.read_whole.new.depot; stream = g.S.Sink.state c.args.out.now } in
    let clauses = rw c.in-Err-OutOfMemory.field-0-is at c.in-Err-OutOfMemory.ensures in
    record {
      reads = only_read _ _ file before.folder after.folder c.in-Err-OutOfMemory.ensures.frame;
      told = refl;
      why = without_memory (clauses.frame.reads.still (λ failed. absurd cc)) (no_memory_for_a_report [] [] OutOfMemory before.stream);
    }

pub returns-in-Err-clause-err : goal.returns-in-Err-clause-err
returns-in-Err-clause-err g c =
    let file = c.args.file.now in
    let before : Outside = record { folder = g.D.Depot.state c.args.depot.now; stream = g.S.Sink.state c.args.out.now } in
    let after : Outside = record { folder = g.D.Depot.state c.read_whole.new.depot; stream = g.S.Sink.state c.end_refused-in-Err.new.out } in
    record {
      reads = only_read _ _ file before.folder after.folder c.in-Ok.ensures.frame;
      told = c.end_refused-in-Err.ensures.told;
      why = stopped file c.in-Ok.text.items c.in-Err.stop before after c.end_refused-in-Err.result c.in-Ok.ensures.whole (rw c.deref.ensures.value at c.in-Err.ensures.stop) c.in-Ok.ensures.frame.reads.ok c.end_refused-in-Err.ensures;
    }
