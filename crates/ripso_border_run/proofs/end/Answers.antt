use Rattle.std.proofs.Common.{◌≡◌, ◌⊎◌, ℕ, subst, sym}
use Rattle.call_report.specs.CallEnds.{MayEnd}
use Rattle.ripso_border_run.specs.Says.{border_says}
use Rattle.ripso_border_run.proofs.end.Goals as goal

pub returns-in-Ok : goal.returns-in-Ok
returns-in-Ok c = subst (λ (n : ℕ). MayEnd border_says n ⊎ (n ≡ 6)) (sym c.from.ensures) c.in-Ok.ensures
