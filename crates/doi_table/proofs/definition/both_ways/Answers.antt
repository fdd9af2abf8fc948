use Rattle.std.proofs.Common.{◌≡◌, false, Option, None, Some, if◌then◌else◌, ◌&&◌, ap}
use Rattle.doi_table.specs.Pairs.{flipped, firsts, are_distinct}
use Rattle.doi_table.specs.declared.fault.DoiFault.{DoiFault}
use Rattle.doi_table.specs.declared.fault.DoiFault.TheVariants.{NotOneToOne}
use Rattle.doi_table.proofs.Kept.{back_fails}
use Rattle.doi_table.proofs.definition.both_ways.Goals as goal

pub returns-in_default-both_sorted-clause-err : goal.returns-in_default-both_sorted-clause-err
returns-in_default-both_sorted-clause-err c =
    let plan = c.args.plan.now in
    let levels : c.in_ok-back_levels.back_levels.items ≡ flipped plan.levels = cc (c.in_ok-back_levels.ensures, c.deref.ensures.value, c.in_ok-levels.ensures.pairs, c.as_slice.ensures) in
    let cats : c.in_ok-back_cats.back_cats.items ≡ flipped plan.cats = cc (c.in_ok-back_cats.ensures, c.deref-2.ensures.value, c.in_ok-cats.ensures.items, c.as_slice-2.ensures) in
    let fails : (are_distinct (firsts (flipped plan.levels)) && are_distinct (firsts (flipped plan.cats))) ≡ false = cc (levels, cats, c.in_default-both_sorted.ensures.none) in
    let none : Option DoiFault = None in
    ap (λ b. if b then none else Some NotOneToOne) (back_fails plan.levels plan.cats fails)
