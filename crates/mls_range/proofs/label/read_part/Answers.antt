use Rattle.std.proofs.lemmas.Result.{err_from_is_err_and, IfOk-weaker, IfErr-weaker}
use Rattle.mls_label.specs.declared.label.Label.{Label}
use Rattle.mls_range.proofs.Labels.{part_no_letter, part_no_number, stops_level, reads_label}
use Rattle.mls_range.proofs.label.read_part.Goals as goal

pub returns-in_err-number-clause-err : goal.returns-in_err-number-clause-err
returns-in_err-number-clause-err c =
    let a = c.args in
    let p = err_from_is_err_and c.from_residual.result c.from_residual.ensures.1 in
    rw (p.1, p.2) (part_no_letter a.dash a.text.now a.start c.in_err-number.field-0.0 c.requires c.in_err-number.ensures.place c.in_err-number.ensures.err)

pub returns-in_err-level-clause-err : goal.returns-in_err-level-clause-err
returns-in_err-level-clause-err c =
    let a = c.args in
    let p = err_from_is_err_and c.from_residual-in_err-level.result c.from_residual-in_err-level.ensures.1 in
    rw (p.1, p.2) (part_no_number a.dash a.text.now a.start c.in_ok-number.number c.in_err-level.field-0.0 c.in_ok-number.ensures.ok c.in_err-level.ensures.err)

pub returns-clause-err : goal.returns-clause-err
returns-clause-err c =
    let a = c.args in
    IfErr-weaker c.read_cats.result _ _ (λ fault f. stops_level a.dash a.text.now a.start c.in_ok-number.number c.in_ok-level.behind c.in_ok-level.level fault c.in_ok-number.ensures.ok c.in_ok-level.ensures.ok f) c.read_cats.ensures.err

pub returns-clause-ok : goal.returns-clause-ok
returns-clause-ok c =
    let a = c.args in
    let label : Label = record { level = c.in_ok-level.level; cats = c.read_cats.new.cats } in
    IfOk-weaker c.read_cats.result _ _ (λ end f. reads_label a.dash a.text.now a.start c.in_ok-number.number c.in_ok-level.behind end label c.in_ok-number.ensures.ok c.in_ok-level.ensures.ok f) c.read_cats.ensures.ok
