use Rattle.std.proofs.Common.{◌≡◌, Err, true, ap, sym, subst, ◌∙◌}
use Rattle.std.specs.Result.{IfErr}
use Rattle.doi_table.specs.declared.plan.DoiPlan.{DoiPlan}
use Rattle.doi_table.proofs.Kept.{local_served}
use Rattle.doi_table.proofs.translate.to_local_into.Goals as goal

pub returns-clause-err : goal.returns-clause-err
returns-clause-err c =
    let way = c.inward.result.now in
    let trans : c.args.def.now.trans ≡ true = sym (ap (λ (p : DoiPlan). p.trans) c.def.view_is) ∙ c.if-not-def.false in
    subst (λ answer. IfErr c.translate.result (λ why. answer ≡ Err why)) (sym (local_served c.args.def.now way.levels.items way.cats.items c.args.label.now trans c.inward.ensures)) c.translate.ensures.err
