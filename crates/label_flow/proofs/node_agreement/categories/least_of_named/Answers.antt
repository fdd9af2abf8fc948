use Rattle.std.proofs.Common.{ℕ, false, sym, subst, arith}
use Rattle.std.proofs.lemmas.List.Elements.{AllWithin-more}
use Rattle.std.proofs.lemmas.Option.{get_or_from_slice_get}
use Rattle.label_flow.specs.node_agreement.Meanings.{wire_meaning}
use Rattle.label_flow.specs.node_agreement.inside.Found.{IsSettled}
use Rattle.label_flow.proofs.node_agreement.Least.{within_stay}
use Rattle.label_flow.proofs.node_agreement.categories.least_of_named.Goals as goal

pub loop-i-preserved : goal.loop-i-preserved
loop-i-preserved c =
    let f = wire_meaning false c.args.ends.now.left.now c.args.ends.now.left_reading.now in
    let g = wire_meaning false c.args.ends.now.right.now c.args.ends.now.right_reading.now in
    let cats = c.args.reading.now.cats in
    let i = c.loop-i.i in
    let old = c.loop-i.found in
    let new = c.nearer-found.result in
    let P : ℕ × ℕ → Type 0 = λ p. IsSettled f g c.args.limit new p.0 in
    record {
      sound = c.nearer-found.ensures.sound;
      lower = omega (arith, c.nearer-found.ensures.lower, c.loop-i.invariant.lower);
      settled = AllWithin-more P cats 0 i (within_stay f g c.args.limit old new cats i c.nearer-found.ensures.lower c.loop-i.invariant.settled) (λ d. subst P (sym (get_or_from_slice_get cats i c.named_category-category.result d c.named_category-category.ensures.named)) c.nearer-found.ensures.settled);
    }
