use Rattle.std.proofs.Common.{ℕ, [], None, refl, subst, sym}
use Rattle.call_report.specs.CallEnds.{CallEnds}
use Rattle.call_report.specs.Outside.{Outside}
use Rattle.call_report.proofs.Law.{ends_with_usage}
use Rattle.netlabel_audit.specs.Lines.{audit_usage_line}
use Rattle.netlabel_audit.specs.Says.{audit_says}
use Rattle.netlabel_audit.proofs.top.carry_out.Goals as goal

pub returns-in-None : goal.returns-in-None
returns-in-None g c =
    let before : Outside = record { folder = g.D.Depot.state c.args.depot.now; stream = g.S.Sink.state c.args.out.now } in
    let after : Outside = record { folder = g.D.Depot.state c.args.depot.now; stream = g.S.Sink.state c.print_usage.new.out } in
    rw c.in-None.is
    (subst (λ (n : ℕ). CallEnds audit_says None before after n []) (sym c.number.ensures)
    (ends_with_usage audit_says audit_usage_line before after c.print_usage.result (λ P p. p) refl c.print_usage.ensures))
