use Rattle.std.proofs.Common.{codes}
use Rattle.netlabel_report.specs.report_telling.Taking.{Standing}
use Rattle.netlabel_report.specs.Course.{report_course}
use Rattle.netlabel_report.proofs.Depots.{one_read, none_named}
use Rattle.netlabel_report.proofs.Telling.{told_alone}
use Rattle.netlabel_report.proofs.reports.tell_reports.Goals as goal

pub returns-then-is_empty-clause-told : goal.returns-then-is_empty-clause-told
returns-then-is_empty-clause-told g c =
    let start = g.D.Depot.state c.args.depot.now in
    let first : Standing = record { progress = c.args.desk.now.progress; tallies = c.args.desk.now.tallies } in
    let after : Standing = record { progress = c.tell_report.new.desk.progress; tallies = c.tell_report.new.desk.tallies } in
    rw (none_named c.args.names.now c.is_empty.result c.is_empty.ensures c.if-is_empty.true)
    (told_alone start.tells (report_course c.args.manner.now (start.held (codes "/dev/stdin")) first) after c.args.report.now.waiting.items c.tell_report.new.report.waiting.items c.tell_report.result
    (g.S.Sink.state c.args.out.now) (g.S.Sink.state c.tell_report.new.out) c.tell_report.ensures.told)

pub returns-then-is_empty-clause-frame : goal.returns-then-is_empty-clause-frame
returns-then-is_empty-clause-frame g c =
    rw (none_named c.args.names.now c.is_empty.result c.is_empty.ensures c.if-is_empty.true)
    (one_read (codes "/dev/stdin") c.tell_report.result (g.D.Depot.state c.args.depot.now) (g.D.Depot.state c.tell_report.new.depot) c.tell_report.ensures.frame)
