use Rattle.std.proofs.Common.{ℕ, ◌+◌, ◌∷◌, drop, ap, sym, ◌∙◌}
use Rattle.std.specs.Str.{bytes_eq}
use Rattle.mls_label.specs.Runs.{runs_of}
use Rattle.mls_range.specs.LabelText.{comma}
use Rattle.call_report.specs.report_lines.inside.Fronts.{run_text, runs_text}
use Rattle.call_report.proofs.report_lines.Fronts.{equal_after, unequal_after, run_there}
use Rattle.call_report.proofs.report_lines.label_text.are_terms_of.Goals as goal

pub returns-in_default : goal.returns-in_default
returns-in_default c =
    let here = c.loop-i in
    let runs = runs_of c.args.cats.now in
    let run : ℕ × ℕ = (c.run-first.result.0, c.run-first.result.1) in
    sym (here.invariant ∙ ap (λ rs. bytes_eq here.rest.now (runs_text here.separator rs)) (run_there runs here.i run c.run-first.ensures.run)
    ∙ unequal_after (runs_text comma (drop (here.i + 1) runs)) (here.separator ∷ run_text run) here.rest.now c.in_default.ensures)

pub loop-i-preserved : goal.loop-i-preserved
loop-i-preserved c =
    let here = c.loop-i in
    let runs = runs_of c.args.cats.now in
    let run : ℕ × ℕ = (c.run-first.result.0, c.run-first.result.1) in
    here.invariant ∙ ap (λ rs. bytes_eq here.rest.now (runs_text here.separator rs)) (run_there runs here.i run c.run-first.ensures.run)
    ∙ equal_after (runs_text comma (drop (here.i + 1) runs)) (here.separator ∷ run_text run) here.rest.now c.in-Some.next.now c.in-Some.ensures
