use Rattle.std.proofs.lemmas.Result.{err_from_is_err_and}
use Rattle.mls_range.proofs.Wholes.{stops_label, whole_label}
use Rattle.mls_range.proofs.Law.{label_texts_compute}
use Rattle.mls_range.proofs.Values.{refused_label}
use Rattle.mls_range.proofs.label.read_label_into.Goals as goal

pub returns-in_err-_end-clause-err : goal.returns-in_err-_end-clause-err
returns-in_err-_end-clause-err c =
    let p = err_from_is_err_and c.from_residual.result c.from_residual.ensures.1 in
    rw (p.1, p.2) (stops_label c.args.text.now c.in_err-_end.field-0.0 c.in_err-_end.ensures.err)

pub returns-clause-ok : goal.returns-clause-ok
returns-clause-ok c = whole_label c.args.text.now c.read_part.new.label c.in_ok-_end._end c.in_ok-_end.ensures.ok

pub returns-in_err-_end-clause-value : goal.returns-in_err-_end-clause-value
returns-in_err-_end-clause-value c =
    let p = err_from_is_err_and c.from_residual.result c.from_residual.ensures.1 in
    rw p.1 (refused_label c.args.text.now c.in_err-_end.field-0.0 (stops_label c.args.text.now c.in_err-_end.field-0.0 c.in_err-_end.ensures.err))

pub returns-clause-value : goal.returns-clause-value
returns-clause-value c =
    let text = c.args.text.now in
    let label = c.read_part.new.label in
    let read = c.in_ok-_end.ensures.ok in
    label_texts_compute text label (whole_label text label c.in_ok-_end._end read) read.roomy
