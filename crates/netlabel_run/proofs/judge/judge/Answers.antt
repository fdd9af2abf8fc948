use Rattle.std.proofs.Common.{◌≤◌, length, ap, refl, sym, subst, inl, inr, arith, [], ◌∷◌, Some}
use Rattle.std.specs.Prelude.{Contains}
use Rattle.std.proofs.lemmas.List.{append-nil}
use Rattle.netlabel_run.specs.declared.command.Command.TheVariants.{Judge}
use Rattle.call_report.specs.declared.status.Status.TheVariants.{Done, Limit}
use Rattle.call_report.specs.Lines.Denial.{verdict_line}
use Rattle.call_report.specs.Lines.Fixed.{packet_limit_line}
use Rattle.call_report.specs.Stages.{reading_stage}
use Rattle.call_report.specs.Outside.{Outside}
use Rattle.netlabel_run.specs.Commands.{netlabel_says}
use Rattle.call_report.proofs.Law.{asks, only_read, ends_printed, ends_unread, ends_unprinted}
use Rattle.netlabel_run.proofs.Requests.{knows_judge, limit_due, verdict_due, quiet}
use Rattle.netlabel_run.proofs.judge.judge.Goals as goal

pub returns-in-Err-TooLong : goal.returns-in-Err-TooLong
returns-in-Err-TooLong g c =
    let file = c.args.file.now in
    let before : Outside = record { folder = g.D.Depot.state c.args.depot.now; stream = g.S.Sink.state c.args.out.now } in
    let after : Outside = record { folder = g.D.Depot.state c.read_whole.new.depot; stream = g.S.Sink.state c.end.new.out } in
    let clauses = rw c.in-Err-TooLong.field-0-is at c.in-Err-TooLong.ensures in
    let printed = rw (c.new.ensures, c.packet_limit.ensures) at c.end.ensures in
    ends_printed netlabel_says (Some (Judge c.args.doi c.args.level.now file)) before after (reading_stage file ∷ [])
    (knows_judge c.args.doi c.args.level.now file before after (only_read _ _ file before.folder after.folder c.in-Err-TooLong.ensures.frame) printed.told)
    Limit [] packet_limit_line (asks (Some (Judge c.args.doi c.args.level.now file)) 7 [] (λ e. cc) (λ e. omega (arith, e))) (limit_due c.args.doi c.args.level.now file before (clauses.too_long refl)) c.end.result (clauses.frame.reads.still (λ failed. absurd cc)) printed

pub returns-in-Err-Failed : goal.returns-in-Err-Failed
returns-in-Err-Failed g c =
    let file = c.args.file.now in
    let before : Outside = record { folder = g.D.Depot.state c.args.depot.now; stream = g.S.Sink.state c.args.out.now } in
    let after : Outside = record { folder = g.D.Depot.state c.read_whole.new.depot; stream = g.S.Sink.state c.args.out.now } in
    let clauses = rw c.in-Err-Failed.field-0-is at c.in-Err-Failed.ensures in
    ends_unread netlabel_says (Some (Judge c.args.doi c.args.level.now file)) before after (reading_stage file ∷ [])
    (knows_judge c.args.doi c.args.level.now file before after (only_read _ _ file before.folder after.folder c.in-Err-Failed.ensures.frame) refl)
    [] (λ e. cc) (record { name = file; in_hand = refl; rose = clauses.frame.reads.cause refl }) refl (λ out. sym (append-nil before.stream.written)) (λ known. inl refl)
    (λ known report has. subst (λ pauses. Contains pauses []) (sym (quiet c.args.doi c.args.level.now file before _ report has)) (0, omega arith, refl)) (inr refl)

pub returns-in-Err-OutOfMemory : goal.returns-in-Err-OutOfMemory
returns-in-Err-OutOfMemory g c =
    let file = c.args.file.now in
    let before : Outside = record { folder = g.D.Depot.state c.args.depot.now; stream = g.S.Sink.state c.args.out.now } in
    let after : Outside = record { folder = g.D.Depot.state c.read_whole.new.depot; stream = g.S.Sink.state c.args.out.now } in
    let clauses = rw c.in-Err-OutOfMemory.field-0-is at c.in-Err-OutOfMemory.ensures in
    ends_unprinted netlabel_says (Some (Judge c.args.doi c.args.level.now file)) before after (reading_stage file ∷ [])
    (knows_judge c.args.doi c.args.level.now file before after (only_read _ _ file before.folder after.folder c.in-Err-OutOfMemory.ensures.frame) refl) (clauses.frame.reads.still (λ failed. absurd cc)) refl

pub returns-in-Ok-verdict_report : goal.returns-in-Ok-verdict_report
returns-in-Ok-verdict_report g c =
    let file = c.args.file.now in
    let before : Outside = record { folder = g.D.Depot.state c.args.depot.now; stream = g.S.Sink.state c.args.out.now } in
    let after : Outside = record { folder = g.D.Depot.state c.read_whole.new.depot; stream = g.S.Sink.state c.end-in-Ok-verdict_report.new.out } in
    let octets = c.in-Ok.octets.items in
    let short : length octets ≤ 65575 = omega (arith, c.in-Ok.ensures.most, c.deref.ensures.len, ap length c.deref.ensures.value) in
    let found = c.in-Ok-verdict_report.ensures in
    let printed = rw found.2 at c.end-in-Ok-verdict_report.ensures in
    ends_printed netlabel_says (Some (Judge c.args.doi c.args.level.now file)) before after (reading_stage file ∷ [])
    (knows_judge c.args.doi c.args.level.now file before after (only_read _ _ file before.folder after.folder c.in-Ok.ensures.frame) printed.told)
    Done (verdict_line found.0) [] (asks (Some (Judge c.args.doi c.args.level.now file)) 0 (verdict_line found.0) (λ e. cc) (λ e. omega (arith, e))) (verdict_due c.args.doi c.args.level.now file before octets found.0 c.in-Ok.ensures.whole short (rw c.deref.ensures.value at found.1))
    c.end-in-Ok-verdict_report.result c.in-Ok.ensures.frame.reads.ok printed

pub returns : goal.returns
returns g c =
    let file = c.args.file.now in
    let before : Outside = record { folder = g.D.Depot.state c.args.depot.now; stream = g.S.Sink.state c.args.out.now } in
    let after : Outside = record { folder = g.D.Depot.state c.read_whole.new.depot; stream = g.S.Sink.state c.args.out.now } in
    ends_unprinted netlabel_says (Some (Judge c.args.doi c.args.level.now file)) before after (reading_stage file ∷ [])
    (knows_judge c.args.doi c.args.level.now file before after (only_read _ _ file before.folder after.folder c.in-Ok.ensures.frame) refl) c.in-Ok.ensures.frame.reads.ok refl
