use Rattle.std.proofs.Common.{subst}
use Rattle.doi_table.specs.declared.plan.DoiPlan.{DoiPlan}
use Rattle.doi_table.specs.inside.Sorted.{Serves}
use Rattle.doi_table.proofs.Kept.{kept_out}
use Rattle.doi_table.proofs.definition.DoiDef.outward.Goals as goal

pub returns : goal.returns
returns c =
    let way = c.self.inside.sorted.outward in
    subst (λ (p : DoiPlan). Serves p.levels p.cats way.levels.items way.cats.items) c.self.view_is (kept_out _ _ _ _ _ c.self.invariant)
