use Rattle.std.proofs.Common.{◌≡◌, ◌+◌, ◌-◌, sym, subst, arith}
use Rattle.cipso_tags.specs.Tag.{HasLength}
use Rattle.cipso_tags.specs.inside.Header.{IsSize}
use Rattle.cipso_tags.proofs.Sizes.{size_there, there_body}
use Rattle.cipso_tags.proofs.header.has_length.Goals as goal

pub returns-then-length-ge-HEADER_OCTETS : goal.returns-then-length-ge-HEADER_OCTETS
returns-then-length-ge-HEADER_OCTETS c =
    let tag = c.args.tag in
    let n = c.args.length in
    let whole : 4 + (n - 4) ≡ n = omega arith in
    let same : c.from-length.result - 4 ≡ n - 4 = omega (arith, c.from-length.ensures) in (
      λ t. subst (HasLength tag) whole (size_there tag (n - 4) (subst (IsSize tag) same (c.is_size.ensures.0 t))),
      λ h. c.is_size.ensures.1 (subst (λ k. IsSize tag k) (sym same) (there_body tag n h).size),
    )
