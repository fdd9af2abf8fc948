use Rattle.std.proofs.Common.{arith, length, ap}
use Rattle.std.proofs.lemmas.List.{length-take}
use Rattle.shared_tables.specs.Plan.{PlanState}
use Rattle.shared_tables.proofs.plan.Plan.step.Goals as goal

pub returns-clause-few : goal.returns-clause-few
returns-clause-few c =
    let plan = c.self.inside in
    omega (arith, length-take plan.upto plan.steps, c.self.invariant.0, c.self.invariant.1, ap (λ (p : PlanState). length p.steps) c.self.view_is)
