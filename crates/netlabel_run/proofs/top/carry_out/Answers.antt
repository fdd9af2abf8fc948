use Rattle.call_report.specs.Lines.Fixed.{usage_line}
use Rattle.call_report.specs.Outside.{Outside}
use Rattle.call_report.proofs.Law.{ends_with_usage}
use Rattle.std.proofs.Common.{refl}
use Rattle.netlabel_run.specs.Commands.{netlabel_says}
use Rattle.netlabel_run.proofs.top.carry_out.Goals as goal

pub returns-in-None : goal.returns-in-None
returns-in-None g c =
    let before : Outside = record { folder = g.D.Depot.state c.args.depot.now; stream = g.S.Sink.state c.args.out.now } in
    let after : Outside = record { folder = g.D.Depot.state c.args.depot.now; stream = g.S.Sink.state c.print_usage.new.out } in
    rw (c.in-None.is, c.without_flows-in-None.ensures.status, c.without_flows-in-None.ensures.seen)
    (ends_with_usage netlabel_says usage_line before after c.print_usage.result (λ P p. p) refl c.print_usage.ensures)
