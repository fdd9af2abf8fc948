use Rattle.std.proofs.Common.{◌∷◌, ◌+◌}
use Rattle.std.specs.Prelude.{◌==◌, if◌then◌else◌}
use Rattle.call_report.specs.report_lines.inside.Fronts.{category_text}
use Rattle.call_report.proofs.report_lines.Fronts.{after_both, not_after, run_parts}
use Rattle.call_report.proofs.report_lines.label_text.after_run.Goals as goal

pub returns-in_default : goal.returns-in_default
returns-in_default c =
    let a = c.args.first in
    let b = c.args.last in
    rw (run_parts a b c.if-first-last.false) (not_after ((if a + 1 == b then 44 else 46) ∷ category_text b) (c.args.separator ∷ category_text a) c.args.text.now c.in_default.ensures)

pub returns : goal.returns
returns c =
    let a = c.args.first in
    let b = c.args.last in
    rw (run_parts a b c.if-first-last.false, after_both ((if a + 1 == b then 44 else 46) ∷ category_text b) (c.args.separator ∷ category_text a) c.args.text.now c.in-Some.rest.now c.in-Some.ensures)
    (rw c.between.ensures at c.after_category-3.ensures)
