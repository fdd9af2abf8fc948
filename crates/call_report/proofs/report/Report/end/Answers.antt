use Rattle.std.proofs.Common.{[]}
use Rattle.call_report.proofs.Flushed.{way_flushed}
use Rattle.call_report.proofs.Law.{a_report_is_printed}
use Rattle.call_report.proofs.report.Report.end.Goals as goal

pub returns-in-Ok : goal.returns-in-Ok
returns-in-Ok g c =
    let before = g.S.Sink.state c.args.out.now in
    let mid = g.S.Sink.state c.flush.new.out in
    let waits = c.args.self.waiting.items in
    a_report_is_printed waits [] before mid (way_flushed waits c.flush.new.self.waiting.items c.in-Ok.field-0 before mid c.in-Ok.ensures.empty c.in-Ok.ensures.hands)
    c.args.last.now c.args.status c.print_last.result (g.S.Sink.state c.print_last.new.out) c.print_last.ensures
