use Rattle.std.proofs.Common.{refl}
use Rattle.call_report.specs.Outside.{Outside}
use Rattle.call_report.proofs.Law.{ends_with_usage}
use Rattle.netlabel_report.specs.Asked.{report_usage_line}
use Rattle.netlabel_report.specs.Says.{report_says}
use Rattle.netlabel_report.proofs.top.report.Goals as goal

pub returns-in-None : goal.returns-in-None
returns-in-None g c =
    let before : Outside = record { folder = g.D.Depot.state c.args.depot.now; stream = g.S.Sink.state c.args.out.now } in
    let after : Outside = record { folder = g.D.Depot.state c.args.depot.now; stream = g.S.Sink.state c.print_usage.new.out } in
    rw (c.number.ensures, ← c.read_question.ensures, c.in-None.is) (ends_with_usage report_says report_usage_line before after c.print_usage.result (λ P p. p) refl c.print_usage.ensures)
