use Rattle.std.proofs.Common.{subst}
use Rattle.doi_table.specs.declared.plan.DoiPlan.{DoiPlan}
use Rattle.doi_table.specs.Pairs.{flipped}
use Rattle.doi_table.specs.inside.Sorted.{Serves}
use Rattle.doi_table.proofs.Kept.{kept_in}
use Rattle.doi_table.proofs.definition.DoiDef.inward.Goals as goal

pub returns : goal.returns
returns c =
    let way = c.self.inside.sorted.inward in
    subst (λ (p : DoiPlan). Serves (flipped p.levels) (flipped p.cats) way.levels.items way.cats.items) c.self.view_is (kept_in _ _ _ _ _ c.self.invariant)
