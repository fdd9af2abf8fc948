use Rattle.std.proofs.Common.{◌-◌, get_or, sym, subst, ◌∙◌, arith}
use Rattle.std.proofs.lemmas.Bool.{false≢true}
use Rattle.std.proofs.lemmas.Result.{err_from_is_err_and}
use Rattle.mls_label.proofs.octet_grammar.Octets.{octets_of}
use Rattle.mls_label.proofs.octet_grammar.Layouts.{place_ends, place_unfit}
use Rattle.cipso_tags.specs.Tag.{HasLength}
use Rattle.cipso_tags.proofs.Law.{each_tag_has_its_type}
use Rattle.cipso_option.specs.Cipso.{IsCipso}
use Rattle.cipso_option.proofs.Places.{MayStand, left_of, option_places}
use Rattle.cipso_option.proofs.Options.{named_passed, typed_passed}
use Rattle.cipso_option.proofs.head.read_tag_head.Goals as goal

pub returns-in_err-kind-clause-err : goal.returns-in_err-kind-clause-err
returns-in_err-kind-clause-err c =
    let s = c.args.bytes.now in
    let passed = named_passed s (octets_of s c.type_inv.bytes) c.requires.start c.requires.named in
    let p = err_from_is_err_and c.from_residual.result c.from_residual.ensures.1 in
    rw (p.1, p.2) (place_ends IsCipso MayStand left_of option_places s 6 c.in_err-kind.field-0.0 passed (omega arith) c.in_err-kind.ensures.err)

pub returns-in_default-clause-err : goal.returns-in_default-clause-err
returns-in_default-clause-err c =
    let s = c.args.bytes.now in
    let passed = named_passed s (octets_of s c.type_inv.bytes) c.requires.start c.requires.named in
    let type = c.in_ok-kind.ensures.ok in
    rw c.unfit.ensures (place_unfit IsCipso MayStand left_of option_places s 6 type.0 passed (omega arith) (λ t. c.in_default.ensures t.0 (t.1 ∙ sym type.1)))

pub returns-then-not-has_length-clause-err : goal.returns-then-not-has_length-clause-err
returns-then-not-has_length-clause-err c =
    let s = c.args.bytes.now in
    let passed = named_passed s (octets_of s c.type_inv.bytes) c.requires.start c.requires.named in
    let type = c.in_ok-kind.ensures.ok in
    rw c.unfit-then-not-has_length.ensures
    (place_unfit IsCipso MayStand left_of option_places s 6 type.0 passed (omega arith)
    (λ t.
    let same = each_tag_has_its_type t.0 c.in-Some.tag (t.1 ∙ sym type.1 ∙ sym c.in-Some.ensures) in
    false≢true (sym c.if-not-has_length.true ∙ c.has_length.ensures.1 (subst (λ tag. HasLength tag (get_or s 1 0 - 6)) same t.2))))

pub returns-in_err-length-clause-err : goal.returns-in_err-length-clause-err
returns-in_err-length-clause-err c =
    let s = c.args.bytes.now in
    let passed = typed_passed s c.in-Some.tag (octets_of s c.type_inv.bytes) c.requires.start c.requires.named (c.in-Some.ensures ∙ c.in_ok-kind.ensures.ok.1) (c.has_length.ensures.0 c.if-not-has_length.false) in
    let p = err_from_is_err_and c.from_residual-in_err-length.result c.from_residual-in_err-length.ensures.1 in
    rw (p.1, p.2) (place_ends IsCipso MayStand left_of option_places s 7 c.in_err-length.field-0.0 passed (omega arith) c.in_err-length.ensures.err)

pub returns-then-length-size-clause-err : goal.returns-then-length-size-clause-err
returns-then-length-size-clause-err c =
    let s = c.args.bytes.now in
    let passed = typed_passed s c.in-Some.tag (octets_of s c.type_inv.bytes) c.requires.start c.requires.named (c.in-Some.ensures ∙ c.in_ok-kind.ensures.ok.1) (c.has_length.ensures.0 c.if-not-has_length.false) in
    let size = c.in_ok-length.ensures.ok in
    rw c.unfit-then-length-size.ensures (place_unfit IsCipso MayStand left_of option_places s 7 size.0 passed (omega arith) (λ e. c.if-length-size.true (size.1 ∙ e)))
