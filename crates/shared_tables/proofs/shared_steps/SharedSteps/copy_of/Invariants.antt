use Rattle.std.proofs.Common.{◌≡◌, take}
use Rattle.shared_tables.proofs.shared_steps.SharedSteps.copy_of.Given as goal

abbrev pub invariant-loop-step : goal.invariant-loop-step
invariant-loop-step l = record { copied : l.copies.items ≡ take l.step-index l.steps }
