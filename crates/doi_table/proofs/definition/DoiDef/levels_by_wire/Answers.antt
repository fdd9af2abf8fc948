use Rattle.std.proofs.Common.{sym, subst}
use Rattle.mls_label.specs.Cats.{Ascends}
use Rattle.doi_table.specs.Pairs.{firsts}
use Rattle.doi_table.proofs.Kept.{rising_ascends}
use Rattle.doi_table.proofs.definition.DoiDef.levels_by_wire.Goals as goal

pub returns-clause-ascending : goal.returns-clause-ascending
returns-clause-ascending c =
    let serving = c.inward.ensures.serving in
    subst (λ pairs. Ascends 0 256 (firsts pairs)) (sym c.deref.ensures.value) (rising_ascends 0 256 c.inward.result.now.levels.items serving.levels_rise serving.levels_below)
