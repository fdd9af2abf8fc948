use Rattle.std.proofs.Common.{[], arith}
use Rattle.std.proofs.lemmas.Result.{err_from_is_err_and}
use Rattle.mls_range.specs.inside.Rest.{BehindFirst}
use Rattle.mls_range.proofs.Rests.{number_then}
use Rattle.mls_range.proofs.TermRests.{behind_none, behind_apart, fault_letter, fault_number, fault_no_term}
use Rattle.mls_range.proofs.terms.read_term.Goals as goal

pub returns-in_err-number-clause-err : goal.returns-in_err-number-clause-err
returns-in_err-number-clause-err c =
    let a = c.args in
    let p = err_from_is_err_and c.from_residual.result c.from_residual.ensures.1 in
    rw (p.1, p.2) (fault_no_term a.dash a.text.now a.start c.in_err-number.field-0.0 c.requires c.in_err-number.ensures.place c.in_err-number.ensures.err)

pub returns-in_err-first-clause-err : goal.returns-in_err-first-clause-err
returns-in_err-first-clause-err c =
    let a = c.args in
    let fault = c.in_err-first.field-0.0 in
    let p = err_from_is_err_and c.from_residual-in_err-first.result c.from_residual-in_err-first.ensures.1 in
    rw (p.1, p.2) (fault_letter a.dash a.text.now a.start c.in_ok-number.number fault c.in_ok-number.ensures.ok (number_then 0 65534 (BehindFirst a.dash) a.text.now c.in_ok-number.number fault (omega arith) (behind_apart a.dash) (λ n low high. ([], behind_none a.dash n (omega arith))) c.in_err-first.ensures.err))

pub returns-in_err-last-clause-err : goal.returns-in_err-last-clause-err
returns-in_err-last-clause-err c =
    let a = c.args in
    let fault = c.in_err-last.field-0.0 in
    let fails = fault_number 0 65534 c.in_ok-first.first (BehindFirst a.dash) a.text.now c.in_ok-number.number c.in_ok-first.behind fault (omega arith) (behind_apart a.dash) c.in_ok-first.ensures.ok c.in_err-last.ensures.err in
    let p = err_from_is_err_and c.from_residual-in_err-last.result c.from_residual-in_err-last.ensures.1 in
    rw (p.1, p.2) (fault_letter a.dash a.text.now a.start c.in_ok-number.number fault c.in_ok-number.ensures.ok fails)
