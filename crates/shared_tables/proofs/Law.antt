-- The laws of src/laws.rt under their names, for the crates above.
use Rattle.std.proofs.Common.{◌≡◌, ℕ, ◌≤◌, take, ap}
use Rattle.std.specs.Prelude.{fold, replicate}
use Rattle.std.proofs.lemmas.List.{take-take}
use Rattle.node_tables.specs.Tables.{fresh}
use Rattle.node_tables.specs.Steps.{step_applied, tables_after}
use Rattle.shared_tables.specs.Plan.{PlanState, network_after}

pub beginnings_agree : (plan : PlanState) (m k : ℕ) → k ≤ m → network_after (record plan { steps = take m plan.steps }) k ≡ network_after plan k
unfolding tables_after
beginnings_agree plan m k within = ap (fold step_applied (replicate plan.nodes fresh)) (take-take k m plan.steps within)
