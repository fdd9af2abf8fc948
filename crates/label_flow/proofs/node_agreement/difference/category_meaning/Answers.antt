use Rattle.std.proofs.Common.{sym, ◌∙◌}
use Rattle.label_flow.proofs.node_agreement.Numbers.{local_within}
use Rattle.label_flow.proofs.node_agreement.difference.category_meaning.Goals as goal

pub category-requires : goal.category-requires
category-requires c =
    local_within c.args.def.now c.args.wire c.in-Some.category c.requires.definition c.requires.wire (sym c.local_category.ensures ∙ c.in-Some.is)
