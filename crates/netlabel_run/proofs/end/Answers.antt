use Rattle.std.proofs.Common.{◌≡◌, ◌⊎◌, ℕ, subst, sym}
use Rattle.call_report.specs.CallEnds.{MayEnd}
use Rattle.netlabel_run.specs.Commands.{netlabel_says}
use Rattle.netlabel_run.proofs.end.Goals as goal

pub returns-in-Ok : goal.returns-in-Ok
returns-in-Ok g c = subst (λ (n : ℕ). MayEnd netlabel_says n ⊎ (n ≡ 6)) (sym c.from.ensures) c.in-Ok.ensures
