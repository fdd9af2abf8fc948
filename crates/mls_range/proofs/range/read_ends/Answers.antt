use Rattle.std.proofs.Common.{◌+◌, refl, inr}
use Rattle.std.proofs.lemmas.Bool.{false≢true}
use Rattle.std.proofs.lemmas.Result.{err_from_is_err_and}
use Rattle.mls_range.specs.Range.{LabelRange}
use Rattle.mls_range.proofs.RangeTexts.{low_at, stops_low, stops_high, pair_read, roomy_read, unordered, roomy_lone}
use Rattle.mls_range.proofs.range.read_ends.Goals as goal

pub returns-in_err-end-clause-err : goal.returns-in_err-end-clause-err
returns-in_err-end-clause-err c =
    let p = err_from_is_err_and c.from_residual.result c.from_residual.ensures.1 in
    rw (p.1, p.2) (stops_low c.args.text.now c.in_err-end.field-0.0 c.in_err-end.ensures.err)

pub returns-then-end-text-clause-roomy : goal.returns-then-end-text-clause-roomy
returns-then-end-text-clause-roomy c =
    roomy_lone c.args.text.now c.read_part.new.label c.in_ok-end.end c.in_ok-end.ensures.ok c.if-end-text.true

pub returns-in_err-_end-clause-err : goal.returns-in_err-_end-clause-err
returns-in_err-_end-clause-err c =
    let text = c.args.text.now in
    let low = c.read_part.new.label in
    let l = low_at text low c.in_ok-end.end c.in_ok-end.ensures.ok c.if-end-text.false in
    let p = err_from_is_err_and c.from_residual-in_err-_end.result c.from_residual-in_err-_end.ensures.1 in
    rw (p.1, p.2) (stops_high text low (c.in_ok-end.end + 1) c.in_err-_end.field-0.0 l c.in_err-_end.ensures.err)

pub returns-then-not-dominates-clause-err : goal.returns-then-not-dominates-clause-err
returns-then-not-dominates-clause-err c =
    let text = c.args.text.now in
    let low = c.read_part.new.label in
    let l = low_at text low c.in_ok-end.end c.in_ok-end.ensures.ok c.if-end-text.false in
    unordered text low c.read_part-2.new.label (c.in_ok-end.end + 1) c.in_ok-_end._end l c.in_ok-_end.ensures.ok (λ d. false≢true (c.if-not-dominates.ensures.1 d))

pub returns-clause-ok : goal.returns-clause-ok
returns-clause-ok c =
    let text = c.args.text.now in
    let low = c.read_part.new.label in
    let high = c.read_part-2.new.label in
    let l = low_at text low c.in_ok-end.end c.in_ok-end.ensures.ok c.if-end-text.false in
    let range : LabelRange = record { low = low; high = high } in
    inr (pair_read text low high (c.in_ok-end.end + 1) c.in_ok-_end._end l c.in_ok-_end.ensures.ok range refl refl)

pub returns-clause-roomy : goal.returns-clause-roomy
returns-clause-roomy c =
    let text = c.args.text.now in
    let low = c.read_part.new.label in
    let l = low_at text low c.in_ok-end.end c.in_ok-end.ensures.ok c.if-end-text.false in
    roomy_read text low c.read_part-2.new.label (c.in_ok-end.end + 1) c.in_ok-_end._end l c.in_ok-_end.ensures.ok
