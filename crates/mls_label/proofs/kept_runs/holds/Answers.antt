use Rattle.std.proofs.Common.{sym, ◌∙◌}
use Rattle.std.proofs.lemmas.Bool.{le-ltb}
use Rattle.mls_label.proofs.Inside.{held_at, held_past}
use Rattle.mls_label.proofs.kept_runs.holds.Goals as goal

pub returns-then-place-runs : goal.returns-then-place-runs
returns-then-place-runs c =
    held_at c.args.runs.now c.args.c c.end_below-place.result _ c.requires c.end_below-place.ensures.below c.end_below-place.ensures.others c.if-place-runs.true

pub returns-else-place-runs : goal.returns-else-place-runs
returns-else-place-runs c =
    le-ltb _ _ c.if-place-runs.false ∙ sym (held_past c.args.runs.now c.args.c c.end_below-place.result c.end_below-place.ensures.below c.if-place-runs.false)
