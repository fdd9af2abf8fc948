use Rattle.std.proofs.Common.{refl}
use Rattle.call_report.specs.Outside.{Outside}
use Rattle.call_report.proofs.Law.{ends_with_usage}
use Rattle.ripso_border_run.specs.Lines.{border_usage_line}
use Rattle.ripso_border_run.specs.Says.{border_says}
use Rattle.ripso_border_run.proofs.top.carry_out.Goals as goal

pub returns-in-None : goal.returns-in-None
returns-in-None g c =
    let before : Outside = record { folder = g.D.Depot.state c.args.depot.now; stream = g.S.Sink.state c.args.out.now } in
    let after : Outside = record { folder = g.D.Depot.state c.args.depot.now; stream = g.S.Sink.state c.print_usage.new.out } in
    rw c.in-None.is (ends_with_usage border_says border_usage_line before after c.print_usage.result (λ P p. p) refl c.print_usage.ensures)
