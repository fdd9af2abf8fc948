use Rattle.std.proofs.lemmas.Result.{err_from_is_err_and, IfOk-weaker, IfErr-weaker}
use Rattle.mls_range.proofs.Labels.{cats_none, cats_no_colon, stops_terms, cats_some}
use Rattle.mls_range.proofs.label.read_cats.Goals as goal

pub returns-then-is_label_end-clause-ok : goal.returns-then-is_label_end-clause-ok
returns-then-is_label_end-clause-ok c =
    let a = c.args in
    cats_none a.dash a.text.now a.start c.clear.new.self c.requires c.clear.ensures c.if-is_label_end.ensures

pub returns-in_err-terms-clause-err : goal.returns-in_err-terms-clause-err
returns-in_err-terms-clause-err c =
    let a = c.args in
    let p = err_from_is_err_and c.from_residual.result c.from_residual.ensures.1 in
    rw (p.1, p.2) (cats_no_colon a.dash a.text.now a.start c.in_err-terms.field-0.0 c.requires c.if-is_label_end.ensures c.in_err-terms.ensures.place c.in_err-terms.ensures.err)

pub returns-clause-err : goal.returns-clause-err
returns-clause-err c =
    let a = c.args in
    IfErr-weaker c.read_terms.result _ _ (λ fault f. stops_terms a.dash a.text.now a.start c.in_ok-terms.terms fault c.in_ok-terms.ensures.ok f) c.read_terms.ensures.err

pub returns-clause-ok : goal.returns-clause-ok
returns-clause-ok c =
    let a = c.args in
    IfOk-weaker c.read_terms.result _ _ (λ end f. cats_some a.dash a.text.now a.start c.in_ok-terms.terms end c.read_terms.new.cats c.in_ok-terms.ensures.ok f) c.read_terms.ensures.ok
