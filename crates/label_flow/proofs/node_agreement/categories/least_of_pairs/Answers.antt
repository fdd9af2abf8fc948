use Rattle.std.proofs.Common.{ℕ, false, subst, arith}
use Rattle.std.proofs.lemmas.List.{get_or_default}
use Rattle.std.proofs.lemmas.List.Elements.{AllWithin-more}
use Rattle.label_flow.specs.node_agreement.Meanings.{wire_meaning}
use Rattle.label_flow.specs.node_agreement.inside.Found.{IsSettled}
use Rattle.label_flow.proofs.node_agreement.Least.{within_stay}
use Rattle.label_flow.proofs.node_agreement.categories.least_of_pairs.Goals as goal

pub loop-wire-preserved : goal.loop-wire-preserved
loop-wire-preserved c =
    let f = wire_meaning false c.args.ends.now.left.now c.args.ends.now.left_reading.now in
    let g = wire_meaning false c.args.ends.now.right.now c.args.ends.now.right_reading.now in
    let pairs = c.args.pairs.now in
    let i = c.loop-wire.wire-index in
    let old = c.loop-wire.found in
    let new = c.nearer-found.result in
    let P : ℕ × ℕ → Type 0 = λ p. IsSettled f g c.args.limit new p.0 in
    record {
      sound = c.nearer-found.ensures.sound;
      settled = AllWithin-more P pairs 0 i (within_stay f g c.args.limit old new pairs i c.nearer-found.ensures.lower c.loop-wire.invariant.settled) (λ d. subst P (get_or_default pairs i (0, 0) d (omega arith)) c.nearer-found.ensures.settled);
    }
