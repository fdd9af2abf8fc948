use Rattle.std.proofs.Common.{[], ◌∷◌, ◌++◌, flat_map, decimal, ap, sym, ◌∙◌}
use Rattle.std.specs.Str.{bytes_eq}
use Rattle.mls_label.specs.Runs.{runs_of}
use Rattle.mls_range.specs.LabelText.{letter_s, terms_of_run, terms_text}
use Rattle.call_report.proofs.report_lines.Fronts.{equal_after, unequal_after, runs_written}
use Rattle.call_report.proofs.report_lines.label_text.is_written.Goals as goal

pub returns-in_default-after_number : goal.returns-in_default-after_number
returns-in_default-after_number c =
    let level = c.args.label.now.level in
    let terms = terms_text (flat_map terms_of_run (runs_of c.args.label.now.cats)) in
    sym (equal_after (decimal level ++ terms) (letter_s ∷ []) c.args.text.now c.in-Some.level.now c.in-Some.ensures
    ∙ unequal_after terms (decimal level) c.in-Some.level.now (rw c.from.ensures at c.in_default-after_number.ensures))

pub returns : goal.returns
returns c =
    let level = c.args.label.now.level in
    let runs = runs_of c.args.label.now.cats in
    let terms = terms_text (flat_map terms_of_run runs) in
    c.are_terms_of.ensures
    ∙ sym (equal_after (decimal level ++ terms) (letter_s ∷ []) c.args.text.now c.in-Some.level.now c.in-Some.ensures
    ∙ equal_after terms (decimal level) c.in-Some.level.now c.in-Some-after_number.terms.now (rw c.from.ensures at c.in-Some-after_number.ensures)
    ∙ ap (bytes_eq c.in-Some-after_number.terms.now) (runs_written runs))
