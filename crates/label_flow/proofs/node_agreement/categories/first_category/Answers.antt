use Rattle.std.proofs.Common.{false, sym, subst, ap, ◌∙◌}
use Rattle.label_flow.specs.node_agreement.Meanings.{wire_meaning}
use Rattle.label_flow.specs.node_agreement.inside.Found.{IsLeast}
use Rattle.label_flow.proofs.node_agreement.Least.{all_stay, least_by_left, least_by_right, least_by_names}
use Rattle.label_flow.proofs.node_agreement.categories.first_category.Goals as goal

pub returns-then-left : goal.returns-then-left
returns-then-left c =
    let ends = c.args.ends.now in
    let limit = c.categories_of-limit.result in
    let best = c.least_of_pairs.result in
    subst (λ k. IsLeast (wire_meaning false ends.left.now ends.left_reading.now) (wire_meaning false ends.right.now ends.right_reading.now) k best) c.categories_of-limit.ensures
    (least_by_left ends.left.now ends.right.now ends.left_reading.now ends.right_reading.now limit best c.cats_by_wire.result.now (sym (ap (λ p. p.trans) c.plan-left.ensures.value) ∙ c.if-left.true) c.cats_by_wire.ensures.same c.least_of_pairs.ensures.sound c.least_of_pairs.ensures.settled)

pub returns-then-right : goal.returns-then-right
returns-then-right c =
    let ends = c.args.ends.now in
    let limit = c.categories_of-limit.result in
    let best = c.least_of_pairs-then-right.result in
    subst (λ k. IsLeast (wire_meaning false ends.left.now ends.left_reading.now) (wire_meaning false ends.right.now ends.right_reading.now) k best) c.categories_of-limit.ensures
    (least_by_right ends.left.now ends.right.now ends.left_reading.now ends.right_reading.now limit best c.cats_by_wire-then-right.result.now (sym (ap (λ p. p.trans) c.plan-right.ensures.value) ∙ c.if-right.true) c.cats_by_wire-then-right.ensures.same c.least_of_pairs-then-right.ensures.sound c.least_of_pairs-then-right.ensures.settled)

pub returns : goal.returns
returns c =
    let ends = c.args.ends.now in
    let f = wire_meaning false ends.left.now ends.left_reading.now in
    let g = wire_meaning false ends.right.now ends.right_reading.now in
    let limit = c.categories_of-limit.result in
    let first = c.least_of_named-found.result in
    let best = c.least_of_named.result in
    subst (λ k. IsLeast f g k best) c.categories_of-limit.ensures
    (least_by_names ends.left.now ends.right.now ends.left_reading.now ends.right_reading.now limit best (sym (ap (λ p. p.trans) c.plan-left.ensures.value) ∙ c.if-left.false) (sym (ap (λ p. p.trans) c.plan-right.ensures.value) ∙ c.if-right.false) c.least_of_named.ensures.sound
    (all_stay f g limit first best ends.left_reading.now.cats c.least_of_named.ensures.lower c.least_of_named-found.ensures.settled) c.least_of_named.ensures.settled)
