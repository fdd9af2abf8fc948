use Rattle.std.proofs.Common.{sym, subst}
use Rattle.mls_label.specs.Cats.{Ascends}
use Rattle.doi_table.specs.Pairs.{firsts}
use Rattle.doi_table.proofs.Kept.{rising_ascends}
use Rattle.doi_table.proofs.definition.DoiDef.cats_by_wire.Goals as goal

pub returns-clause-ascending : goal.returns-clause-ascending
returns-clause-ascending c =
    let serving = c.inward.ensures.serving in
    subst (λ pairs. Ascends 0 65535 (firsts pairs)) (sym c.deref.ensures.value) (rising_ascends 0 65535 c.inward.result.now.cats.items serving.cats_rise serving.cats_below)
