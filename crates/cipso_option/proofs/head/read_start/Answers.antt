use Rattle.std.proofs.Common.{sym, ◌∙◌, arith}
use Rattle.std.proofs.lemmas.Bool.{false≢true}
use Rattle.std.proofs.lemmas.Result.{err_from_is_err_and}
use Rattle.mls_label.proofs.octet_grammar.Layouts.{place_ends, place_unfit}
use Rattle.cipso_option.specs.Cipso.{IsCipso}
use Rattle.cipso_option.proofs.Places.{MayStand, left_of, option_places}
use Rattle.cipso_option.proofs.head.read_start.Goals as goal

pub returns-in_err-kind-clause-err : goal.returns-in_err-kind-clause-err
returns-in_err-kind-clause-err c =
    let p = err_from_is_err_and c.from_residual.result c.from_residual.ensures.1 in
    rw (p.1, p.2) (place_ends IsCipso MayStand left_of option_places c.args.bytes.now 0 c.in_err-kind.field-0.0 tt (omega arith) c.in_err-kind.ensures.err)

pub returns-then-kind-clause-err : goal.returns-then-kind-clause-err
returns-then-kind-clause-err c =
    let first = c.in_ok-kind.ensures.ok in
    rw c.unfit.ensures (place_unfit IsCipso MayStand left_of option_places c.args.bytes.now 0 first.0 tt (omega arith) (λ e. c.if-kind.true (first.1 ∙ e)))

pub returns-in_err-length-clause-err : goal.returns-in_err-length-clause-err
returns-in_err-length-clause-err c =
    let typed = sym c.in_ok-kind.ensures.ok.1 ∙ c.if-kind.false in
    let p = err_from_is_err_and c.from_residual-in_err-length.result c.from_residual-in_err-length.ensures.1 in
    rw (p.1, p.2) (place_ends IsCipso MayStand left_of option_places c.args.bytes.now 1 c.in_err-length.field-0.0 (typed, tt) (omega arith) c.in_err-length.ensures.err)

pub returns-then-not-is_length-clause-err : goal.returns-then-not-is_length-clause-err
returns-then-not-is_length-clause-err c =
    let typed = sym c.in_ok-kind.ensures.ok.1 ∙ c.if-kind.false in
    let second = c.in_ok-length.ensures.ok in
    rw c.unfit-then-not-is_length.ensures
    (place_unfit IsCipso MayStand left_of option_places c.args.bytes.now 1 second.0 (typed, tt) (omega arith)
    (λ bounds. false≢true (sym c.if-not-is_length.true ∙ c.is_length.ensures.1 (omega (arith, second.1, bounds.0), omega (arith, second.1, bounds.1)))))
