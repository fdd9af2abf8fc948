use Rattle.std.proofs.Common.{◌≡◌, ◌+◌, ◌-◌, ◌++◌, length, take, drop, ap, subst, ◌∙◌, arith, length-drop}
use Rattle.std.proofs.lemmas.List.{take_all, length-take}
use Rattle.std.proofs.lemmas.Result.{err_from_is_err_and}
use Rattle.mls_label.proofs.octet_grammar.Places.{moved_within, moved_error}
use Rattle.cipso_tags.specs.Tag.{IsTag}
use Rattle.mls_label.specs.octet_grammar.Fault.{FailsFront}
use Rattle.cipso_tags.specs.Body.{IsBody}
use Rattle.cipso_tags.specs.inside.Header.{header_of, IsSize, IsSized}
use Rattle.cipso_tags.proofs.Sizes.{there_body}
use Rattle.cipso_tags.proofs.Headers.{body_fails}
use Rattle.cipso_tags.proofs.tag.read_tag_into.Goals as goal

pub read_body-read-requires : goal.read_body-read-requires
read_body-read-requires c =
    let header = c.in_ok-header.header in
    let same : header.length - 4 ≡ c.from-length.result - 4 = omega (arith, c.from-length.ensures) in
    subst (IsSize header.tag) same (there_body header.tag header.length c.in_ok-header.ensures.ok.there).size

pub moved-requires-clause-within : goal.moved-requires-clause-within
moved-requires-clause-within c =
    let header = c.in_ok-header.header in
    let bytes = c.args.bytes.now in
    let body = take (length bytes - 4) (drop 4 bytes) in
    moved_within (IsSized (c.from-length.result - 4) (IsBody header.tag)) body _ c.read_body-read.result c.read_body-read.ensures.err (omega (arith, length-take (length bytes - 4) (drop 4 bytes)))

pub returns-in_err-moved-clause-err : goal.returns-in_err-moved-clause-err
returns-in_err-moved-clause-err c =
    let bytes = c.args.bytes.now in
    let rest = drop 4 bytes in
    let header = c.in_ok-header.header in
    let begins = c.in_ok-header.ensures.ok in
    let has = there_body header.tag header.length begins.there in
    let size = header.length - 4 in
    let same : c.from-length.result - 4 ≡ size = omega (arith, c.from-length.ensures) in
    let long : header.length ≡ 4 + size = omega (arith, has.low) in
    let is : bytes ≡ header_of header.tag (4 + size) header.level ++ rest = begins.is ∙ ap (λ n. header_of header.tag n header.level ++ rest) long in
    let whole : take (length bytes - 4) rest ≡ rest = take_all (length bytes - 4) rest (omega (arith, length-drop 4 bytes)) in
    let p = err_from_is_err_and c.from_residual-in_err-moved.result c.from_residual-in_err-moved.ensures.1 in
    rw (p.1, p.2)
    (moved_error c.read_body-read.result c.moved.result 4 (FailsFront (IsSized (c.from-length.result - 4) (IsBody header.tag)) (take (length bytes - 4) rest)) (FailsFront IsTag bytes) c.in_err-moved.field-0.0 c.moved.ensures c.read_body-read.ensures.err (c.in_err-moved.was {u = tt})
    (λ e fails. body_fails header.tag size header.level bytes rest e has.size (omega arith) is (subst (λ s. FailsFront (IsSized size (IsBody header.tag)) s e) whole (subst (λ n. FailsFront (IsSized n (IsBody header.tag)) (take (length bytes - 4) rest) e) same fails))))
