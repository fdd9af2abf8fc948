use Rattle.std.proofs.Common.{get_or, sym, subst, ◌∙◌, arith}
use Rattle.std.proofs.lemmas.Bool.{false≢true}
use Rattle.std.proofs.lemmas.Result.{err_from_is_err_and}
use Rattle.mls_label.proofs.octet_grammar.Layouts.{place_ends, place_unfit}
use Rattle.cipso_tags.specs.Tag.{IsTag, HasLength}
use Rattle.cipso_tags.proofs.Headers.{MayStand, left_of, same_tag, header_places}
use Rattle.cipso_tags.proofs.header.read_header.Goals as goal

pub returns-in_err-kind-clause-err : goal.returns-in_err-kind-clause-err
returns-in_err-kind-clause-err c =
    let p = err_from_is_err_and c.from_residual.result c.from_residual.ensures.1 in
    rw (p.1, p.2) (place_ends IsTag MayStand left_of header_places c.args.bytes.now 0 c.in_err-kind.field-0.0 tt (omega arith) c.in_err-kind.ensures.err)

pub returns-in_default-clause-err : goal.returns-in_default-clause-err
returns-in_default-clause-err c =
    let first = c.in_ok-kind.ensures.ok in
    rw c.unfit.ensures
    (place_unfit IsTag MayStand left_of header_places c.args.bytes.now 0 first.0 tt (omega arith) (λ t. c.in_default.ensures t.0 (t.1 ∙ sym first.1)))

pub returns-in_err-length-clause-err : goal.returns-in_err-length-clause-err
returns-in_err-length-clause-err c =
    let first = c.in_ok-kind.ensures.ok in
    let type = c.in-Some.ensures ∙ first.1 in
    let p = err_from_is_err_and c.from_residual-in_err-length.result c.from_residual-in_err-length.ensures.1 in
    rw (p.1, p.2)
    (place_ends IsTag MayStand left_of header_places c.args.bytes.now 1 c.in_err-length.field-0.0 ((c.in-Some.tag, type), tt) (omega arith) c.in_err-length.ensures.err)

pub returns-then-not-has_length-clause-err : goal.returns-then-not-has_length-clause-err
returns-then-not-has_length-clause-err c =
    let first = c.in_ok-kind.ensures.ok in
    let second = c.in_ok-length.ensures.ok in
    let tag = c.in-Some.tag in
    let type = c.in-Some.ensures ∙ first.1 in
    rw c.unfit-then-not-has_length.ensures
    (place_unfit IsTag MayStand left_of header_places c.args.bytes.now 1 second.0 ((tag, type), tt) (omega arith)
    (λ t.
    let there = subst (λ g. HasLength g (get_or c.args.bytes.now 1 0)) (same_tag t.0 tag (t.1 ∙ sym type)) t.2 in
    false≢true (sym c.if-not-has_length.true ∙ c.has_length.ensures.1 (subst (HasLength tag) (sym second.1) there))))

pub returns-in_err-alignment-clause-err : goal.returns-in_err-alignment-clause-err
returns-in_err-alignment-clause-err c =
    let second = c.in_ok-length.ensures.ok in
    let tag = c.in-Some.tag in
    let type = c.in-Some.ensures ∙ c.in_ok-kind.ensures.ok.1 in
    let there = subst (HasLength tag) second.1 (c.has_length.ensures.0 c.if-not-has_length.false) in
    let p = err_from_is_err_and c.from_residual-in_err-alignment.result c.from_residual-in_err-alignment.ensures.1 in
    rw (p.1, p.2)
    (place_ends IsTag MayStand left_of header_places c.args.bytes.now 2 c.in_err-alignment.field-0.0 ((tag, type), ((tag, type, there), tt)) (omega arith) c.in_err-alignment.ensures.err)

pub returns-then-alignment-ne0-clause-err : goal.returns-then-alignment-ne0-clause-err
returns-then-alignment-ne0-clause-err c =
    let second = c.in_ok-length.ensures.ok in
    let third = c.in_ok-alignment.ensures.ok in
    let tag = c.in-Some.tag in
    let type = c.in-Some.ensures ∙ c.in_ok-kind.ensures.ok.1 in
    let there = subst (HasLength tag) second.1 (c.has_length.ensures.0 c.if-not-has_length.false) in
    rw c.unfit-then-alignment-ne0.ensures
    (place_unfit IsTag MayStand left_of header_places c.args.bytes.now 2 third.0 ((tag, type), ((tag, type, there), tt)) (omega arith) (λ z. c.if-alignment-ne0.true (third.1 ∙ z)))

pub returns-in_err-level-clause-err : goal.returns-in_err-level-clause-err
returns-in_err-level-clause-err c =
    let second = c.in_ok-length.ensures.ok in
    let third = c.in_ok-alignment.ensures.ok in
    let tag = c.in-Some.tag in
    let type = c.in-Some.ensures ∙ c.in_ok-kind.ensures.ok.1 in
    let there = subst (HasLength tag) second.1 (c.has_length.ensures.0 c.if-not-has_length.false) in
    let p = err_from_is_err_and c.from_residual-in_err-level.result c.from_residual-in_err-level.ensures.1 in
    rw (p.1, p.2)
    (place_ends IsTag MayStand left_of header_places c.args.bytes.now 3 c.in_err-level.field-0.0 ((tag, type), ((tag, type, there), (sym third.1 ∙ c.if-alignment-ne0.false, tt))) (omega arith) c.in_err-level.ensures.err)
