use Rattle.std.proofs.Common.{◌-◌, ◌/◌, get_or, length, refl, sym, subst, ap, ◌∙◌, arith}
use Rattle.std.proofs.lemmas.Bool.{false≢true}
use Rattle.std.proofs.lemmas.Result.{err_from_is_err_and}
use Rattle.mls_label.proofs.octet_grammar.Octets.{octets_of}
use Rattle.mls_label.proofs.octet_grammar.Layouts.{place_ends, place_unfit, nonzero_fails}
use Rattle.mls_label.specs.declared.octet_grammar.fault.WireKind.TheVariants.{End}
use Rattle.calipso_option.specs.Calipso.{IsCalipsoShape}
use Rattle.calipso_option.specs.inside.Layout.{IsLength}
use Rattle.calipso_option.proofs.Places.{MayStand, places_left, IsHeaded, type_passed, size_passed, doi_passed, shape_places, doi_places, headed_ends}
use Rattle.calipso_option.proofs.layout.read_layout.Goals as goal

pub returns-in_err-kind-clause-err : goal.returns-in_err-kind-clause-err
returns-in_err-kind-clause-err c =
    let p = err_from_is_err_and c.from_residual.result c.from_residual.ensures.1 in
    rw (p.1, p.2) (place_ends IsCalipsoShape MayStand places_left shape_places c.args.bytes.now 0 c.in_err-kind.field-0.0 tt (omega arith) c.in_err-kind.ensures.err)

pub returns-then-kind-ne-OPTION_TYPE-clause-err : goal.returns-then-kind-ne-OPTION_TYPE-clause-err
returns-then-kind-ne-OPTION_TYPE-clause-err c =
    let first = c.in_ok-kind.ensures.ok in
    rw c.unfit.ensures
    (place_unfit IsCalipsoShape MayStand places_left shape_places c.args.bytes.now 0 first.0 tt (omega arith) (λ may. c.if-kind-ne-OPTION_TYPE.true (first.1 ∙ may.1)))

pub returns-in_err-size-clause-err : goal.returns-in_err-size-clause-err
returns-in_err-size-clause-err c =
    let s = c.args.bytes.now in
    let passed = type_passed s (octets_of s c.type_inv.bytes) (sym c.in_ok-kind.ensures.ok.1 ∙ c.if-kind-ne-OPTION_TYPE.false) in
    let p = err_from_is_err_and c.from_residual-in_err-size.result c.from_residual-in_err-size.ensures.1 in
    rw (p.1, p.2) (place_ends IsCalipsoShape MayStand places_left shape_places s 1 c.in_err-size.field-0.0 passed (omega arith) c.in_err-size.ensures.err)

pub returns-then-not-is_length-clause-err : goal.returns-then-not-is_length-clause-err
returns-then-not-is_length-clause-err c =
    let s = c.args.bytes.now in
    let second = c.in_ok-size.ensures.ok in
    let passed = type_passed s (octets_of s c.type_inv.bytes) (sym c.in_ok-kind.ensures.ok.1 ∙ c.if-kind-ne-OPTION_TYPE.false) in
    rw c.unfit-then-not-is_length.ensures
    (place_unfit IsCalipsoShape MayStand places_left shape_places s 1 second.0 passed (omega arith)
    (λ may. false≢true (sym c.if-not-is_length.true ∙ c.is_length.ensures.1 (subst IsLength (sym second.1) may.1))))

pub returns-in_err-nonzero_at-clause-err : goal.returns-in_err-nonzero_at-clause-err
returns-in_err-nonzero_at-clause-err c =
    let s = c.args.bytes.now in
    let octets = octets_of s c.type_inv.bytes in
    let size = subst IsLength c.in_ok-size.ensures.ok.1 (c.is_length.ensures.0 c.if-not-is_length.false) in
    let passed = size_passed s octets (sym c.in_ok-kind.ensures.ok.1 ∙ c.if-kind-ne-OPTION_TYPE.false) size in
    let p = err_from_is_err_and c.from_residual-in_err-nonzero_at.result c.from_residual-in_err-nonzero_at.ensures.1 in
    rw (p.1, p.2)
    (nonzero_fails IsCalipsoShape MayStand places_left shape_places s 2 c.in_err-nonzero_at.field-0.0 octets passed (doi_places (get_or s 0 0) (get_or s 1 0) size) c.in_err-nonzero_at.ensures.err)

pub returns-in_err-words-clause-err : goal.returns-in_err-words-clause-err
returns-in_err-words-clause-err c =
    let s = c.args.bytes.now in
    let doi = c.in_ok-nonzero_at.ensures.ok in
    let size = subst IsLength c.in_ok-size.ensures.ok.1 (c.is_length.ensures.0 c.if-not-is_length.false) in
    let passed = doi_passed s (octets_of s c.type_inv.bytes) (sym c.in_ok-kind.ensures.ok.1 ∙ c.if-kind-ne-OPTION_TYPE.false) size (omega (arith, doi)) in
    let p = err_from_is_err_and c.from_residual-in_err-words.result c.from_residual-in_err-words.ensures.1 in
    rw (p.1, p.2) (place_ends IsCalipsoShape MayStand places_left shape_places s 6 c.in_err-words.field-0.0 passed (omega (arith, size.low)) c.in_err-words.ensures.err)

pub returns-then-words-size-clause-err : goal.returns-then-words-size-clause-err
returns-then-words-size-clause-err c =
    let s = c.args.bytes.now in
    let doi = c.in_ok-nonzero_at.ensures.ok in
    let seventh = c.in_ok-words.ensures.ok in
    let size = subst IsLength c.in_ok-size.ensures.ok.1 (c.is_length.ensures.0 c.if-not-is_length.false) in
    let passed = doi_passed s (octets_of s c.type_inv.bytes) (sym c.in_ok-kind.ensures.ok.1 ∙ c.if-kind-ne-OPTION_TYPE.false) size (omega (arith, doi)) in
    rw c.unfit-then-words-size.ensures
    (place_unfit IsCalipsoShape MayStand places_left shape_places s 6 seventh.0 passed (omega (arith, size.low))
    (λ may. c.if-words-size.true (seventh.1 ∙ may.1 ∙ ap (λ n. (n - 8) / 4) (sym c.in_ok-size.ensures.ok.1))))

pub returns-then-bytes-length-clause-err : goal.returns-then-bytes-length-clause-err
returns-then-bytes-length-clause-err c =
    let s = c.args.bytes.now in
    let second = c.in_ok-size.ensures.ok in
    let seventh = c.in_ok-words.ensures.ok in
    let h : IsHeaded s = record {
      octets = octets_of s c.type_inv.bytes;
      long = omega (arith, seventh.0);
      type = sym c.in_ok-kind.ensures.ok.1 ∙ c.if-kind-ne-OPTION_TYPE.false;
      size = subst IsLength second.1 (c.is_length.ensures.0 c.if-not-is_length.false);
      named = omega (arith, c.in_ok-nonzero_at.ensures.ok);
      words = sym seventh.1 ∙ c.if-words-size.false ∙ ap (λ n. (n - 8) / 4) second.1;
    } in
    rw c.ended.ensures (headed_ends s (record { octet = length s; kind = End }) h (omega (arith, c.if-bytes-length.true, second.1)) (refl, refl, refl))
