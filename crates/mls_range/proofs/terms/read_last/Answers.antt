use Rattle.std.proofs.Common.{◌≡◌, ◌+◌, get_or, [], arith, inl, inr, ◌⊎◌}
use Rattle.std.proofs.lemmas.List.{get_or_past}
use Rattle.std.proofs.lemmas.Result.{err_from_is_err_and}
use Rattle.mls_range.specs.Crowd.{IsCounted}
use Rattle.mls_range.proofs.Rests.{number_then}
use Rattle.mls_range.proofs.TermRests.{counted_apart, fault_dot, fault_second, fault_number, fault_undotted, fault_behind, fault_no_letter}
use Rattle.mls_range.proofs.terms.read_last.Goals as goal
use Rattle.mls_range.proofs.terms.read_last.Goals.{then-first-eq-HIGHEST_CATEGORY-via-then-first-eq-HIGHEST_CATEGORY, then-first-eq-HIGHEST_CATEGORY-via-else-first-eq-HIGHEST_CATEGORY+then-start-text, then-first-eq-HIGHEST_CATEGORY-via-else-first-eq-HIGHEST_CATEGORY+else-start-text+then-text-start-ne46}

pub returns-in_err-end_term-clause-err : goal.returns-in_err-end_term-clause-err
returns-in_err-end_term-clause-err c =
    let a = c.args in
    let text = a.text.now in
    let fault = c.in_err-end_term.field-0.0 in
    let undotted : (a.first ≡ 65534) ⊎ (get_or text a.start 0 ≡ 46 → ⊥) = elim c.then-first-eq-HIGHEST_CATEGORY.branch [
      | then-first-eq-HIGHEST_CATEGORY-via-then-first-eq-HIGHEST_CATEGORY w ↦ inl w.if-first-eq-HIGHEST_CATEGORY.true
      | then-first-eq-HIGHEST_CATEGORY-via-else-first-eq-HIGHEST_CATEGORY+then-start-text w ↦ inr (λ e. omega (arith, e, get_or_past text a.start 0 (omega (arith, w.if-start-text.true))))
      | then-first-eq-HIGHEST_CATEGORY-via-else-first-eq-HIGHEST_CATEGORY+else-start-text+then-text-start-ne46 w ↦ inr w.if-text-start-ne46.true
    ] in
    let p = err_from_is_err_and c.from_residual.result c.from_residual.ensures.1 in
    rw (p.1, p.2) (fault_undotted a.dash a.first text a.start fault c.requires.within c.requires.category c.in_err-end_term.ensures.place c.in_err-end_term.ensures.err undotted)

pub returns-in_err-number-clause-err : goal.returns-in_err-number-clause-err
returns-in_err-number-clause-err c =
    let a = c.args in
    let text = a.text.now in
    let letter = c.in_ok-letter.letter in
    let reads = c.in_ok-letter.ensures.ok in
    let p = err_from_is_err_and c.from_residual-in_err-number.result c.from_residual-in_err-number.ensures.1 in
    rw (p.1, p.2) (fault_dot a.dash a.first text a.start letter c.in_err-number.field-0.0 reads (fault_no_letter a.dash a.first text letter c.in_err-number.field-0.0 reads.within (omega arith) c.in_err-number.ensures.place c.in_err-number.ensures.err))

pub returns-in_err-last-clause-err : goal.returns-in_err-last-clause-err
returns-in_err-last-clause-err c =
    let a = c.args in
    let text = a.text.now in
    let fault = c.in_err-last.field-0.0 in
    let fails = number_then (a.first + 1) 65534 (λ n. IsCounted a.dash) text c.in_ok-number.number fault (omega arith) (counted_apart a.dash) (λ n low high. ([], tt)) c.in_err-last.ensures.err in
    let p = err_from_is_err_and c.from_residual-in_err-last.result c.from_residual-in_err-last.ensures.1 in
    rw (p.1, p.2) (fault_dot a.dash a.first text a.start c.in_ok-letter.letter fault c.in_ok-letter.ensures.ok (fault_second a.dash a.first text c.in_ok-letter.letter c.in_ok-number.number fault c.in_ok-number.ensures.ok fails))

pub returns-in_err-end_term-2-clause-err : goal.returns-in_err-end_term-2-clause-err
returns-in_err-end_term-2-clause-err c =
    let a = c.args in
    let text = a.text.now in
    let fault = c.in_err-end_term-2.field-0.0 in
    let reads = c.in_ok-last.ensures.ok in
    let fails = fault_number (a.first + 1) 65534 c.in_ok-last.last (λ n. IsCounted a.dash) text c.in_ok-number.number c.in_ok-last.end fault (omega arith) (counted_apart a.dash) reads (fault_behind a.dash text c.in_ok-last.end fault reads.reads.within c.in_err-end_term-2.ensures.place c.in_err-end_term-2.ensures.err) in
    let p = err_from_is_err_and c.from_residual-in_err-end_term-2.result c.from_residual-in_err-end_term-2.ensures.1 in
    rw (p.1, p.2) (fault_dot a.dash a.first text a.start c.in_ok-letter.letter fault c.in_ok-letter.ensures.ok (fault_second a.dash a.first text c.in_ok-letter.letter c.in_ok-number.number fault c.in_ok-number.ensures.ok fails))
