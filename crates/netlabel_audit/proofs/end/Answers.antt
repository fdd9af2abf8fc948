use Rattle.std.proofs.Common.{◌≡◌, ◌⊎◌, ℕ, subst, sym}
use Rattle.call_report.specs.CallEnds.{MayEnd}
use Rattle.netlabel_audit.specs.Says.{audit_says}
use Rattle.netlabel_audit.proofs.end.Goals as goal

pub returns-in-Ok : goal.returns-in-Ok
returns-in-Ok c = subst (λ (n : ℕ). MayEnd audit_says n ⊎ (n ≡ 6)) (sym c.from.ensures) c.in-Ok.ensures
