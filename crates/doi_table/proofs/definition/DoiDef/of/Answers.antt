use Rattle.doi_table.proofs.Kept.{kept_plan, directions_one_to_one}
use Rattle.doi_table.proofs.definition.DoiDef.of.Goals as goal

pub invariant_of-result : goal.invariant_of-result
invariant_of-result c =
    let ways = c.in_ok-sorted.sorted in
    kept_plan c.args.plan.now c.in_ok-plan.plan ways.outward.levels.items ways.outward.cats.items ways.inward.levels.items ways.inward.cats.items c.in_ok-plan.ensures c.requires.is_plan c.requires.few c.in_ok-sorted.ensures.levels c.in_ok-sorted.ensures.ok

pub returns-clause-one_to_one : goal.returns-clause-one_to_one
returns-clause-one_to_one c =
    let ways = c.in_ok-sorted.sorted in
    directions_one_to_one c.args.plan.now ways.outward.levels.items ways.outward.cats.items ways.inward.levels.items ways.inward.cats.items c.in_ok-sorted.ensures.ok
