use Rattle.std.proofs.Common.{◌≡◌, length, get_or, subst, sym, arith, inl, inr, ◌⊎◌}
use Rattle.std.proofs.lemmas.Result.{err_from_is_err_and}
use Rattle.mls_range.proofs.Crowds.{HasTerms, has_none, has_more, stops_term, reads_terms, stops_run}
use Rattle.mls_range.proofs.terms.read_terms.Goals as goal
use Rattle.mls_range.proofs.terms.read_terms.Goals.{then-term-text-via-then-term-text, then-term-text-via-else-term-text+then-text-term-ne44}

pub loop-term-init : goal.loop-term-init
loop-term-init c =
    let a = c.args in
    subst (HasTerms a.text.now a.start a.start) (sym c.requires.empty) (has_none a.text.now a.start c.requires.within)

pub returns-in_err-term-clause-err : goal.returns-in_err-term-clause-err
returns-in_err-term-clause-err c =
    let a = c.args in
    let fault = c.in_err-term.field-0.0 in
    let p = err_from_is_err_and c.from_residual.result c.from_residual.ensures.1 in
    rw (p.1, p.2) (stops_term a.dash a.text.now a.start c.loop-term.at c.loop-term.cats fault c.loop-term.invariant c.in_err-term.ensures.err)

pub returns-in_err-add_term-clause-err : goal.returns-in_err-add_term-clause-err
returns-in_err-add_term-clause-err c =
    let a = c.args in
    let term = c.in_ok-term.term in
    let p = err_from_is_err_and c.from_residual-in_err-add_term.result c.from_residual-in_err-add_term.ensures.1 in
    rw (p.1, p.2) (stops_run a.dash a.text.now a.start c.loop-term.at term.end term.first term.last c.loop-term.cats c.in_err-add_term.field-0.0 c.loop-term.invariant c.in_ok-term.ensures.ok c.in_err-add_term.ensures.err)

pub returns-then-term-text-clause-ok : goal.returns-then-term-text-clause-ok
returns-then-term-text-clause-ok c =
    let a = c.args in
    let term = c.in_ok-term.term in
    let over : (term.end ≡ length a.text.now) ⊎ (get_or a.text.now term.end 0 ≡ 44 → ⊥) = elim c.then-term-text.branch [
      | then-term-text-via-then-term-text w ↦ inl w.if-term-text.true
      | then-term-text-via-else-term-text+then-text-term-ne44 w ↦ inr w.if-text-term-ne44.true
    ] in
    reads_terms a.dash a.text.now a.start c.loop-term.at term.end term.first term.last c.loop-term.cats c.add_term.new.cats c.loop-term.invariant c.in_ok-term.ensures.ok c.in_ok-add_term.ensures.ok c.in_ok-add_term.ensures.few over

pub loop-term-preserved : goal.loop-term-preserved
loop-term-preserved c =
    let a = c.args in
    let term = c.in_ok-term.term in
    let r = c.in_ok-term.ensures.ok in
    has_more a.text.now a.start c.loop-term.at term.end c.loop-term.cats c.add_term.new.cats a.dash term.first term.last c.loop-term.invariant r c.in_ok-add_term.ensures.ok c.in_ok-add_term.ensures.few (omega (arith, r.reads.within, c.if-term-text.false)) c.if-text-term-ne44.false
