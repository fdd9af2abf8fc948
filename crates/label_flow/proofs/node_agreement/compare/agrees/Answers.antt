use Rattle.std.proofs.Common.{subst}
use Rattle.mls_label.specs.declared.label.Proto.TheVariants.{Cipso}
use Rattle.label_flow.specs.node_agreement.inside.Found.{IsFirstAmong}
use Rattle.label_flow.proofs.node_agreement.Firsts.{OfProto, none_of_both}
use Rattle.label_flow.proofs.node_agreement.compare.agrees.Goals as goal

pub returns-in-None-clause-agree : goal.returns-in-None-clause-agree
returns-in-None-clause-agree c =
    let left = c.args.left.now in
    let right = c.args.right.now in
    let left_named = c.args.left_reading.now in
    let right_named = c.args.right_reading.now in
    none_of_both left right left_named right_named c.first_of-in-None.result (subst (IsFirstAmong (OfProto left right left_named right_named Cipso) left right left_named right_named) c.in-None.is c.first_of.ensures) c.first_of-in-None.ensures
