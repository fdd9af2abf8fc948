use Rattle.std.proofs.Common.{sym, ap, ◌∙◌, refl, arith, Some}
use Rattle.domain_map.specs.address_text.Number.{number_of_text}
use Rattle.domain_map.specs.address_text.Prefix.{block_of_parts}
use Rattle.domain_map.proofs.address_text.Parts.{refused_bits, read_bits}
use Rattle.domain_map.proofs.address_text.prefix.read_prefix.Goals as goal

pub returns-in_err-bits : goal.returns-in_err-bits
returns-in_err-bits c =
    let a = c.in_ok-address-2.address in
    let bits = c.in-Some.bits.now in
    let none = ap (λ w. number_of_text w bits) (sym c.width-2.ensures.bits) ∙ sym c.in_err-bits.ensures in
    c.from_residual-in_err-bits.ensures ∙ sym (ap block_of_parts c.in-Some.ensures ∙ refused_bits a c.in-Some.address.now bits _ refl (sym c.in_ok-address-2.ensures.value) none)

pub returns : goal.returns
returns c =
    let a = c.in_ok-address-2.address in
    let bits = c.in-Some.bits.now in
    let number = ap (λ w. number_of_text w bits) (sym c.width-2.ensures.bits) ∙ sym c.in_ok-bits.ensures in
    ap Some c.of-2.ensures ∙ sym (ap block_of_parts c.in-Some.ensures ∙ read_bits a c.in_ok-bits.bits c.in-Some.address.now bits (omega (arith, c.width-2.ensures.bits)) (sym c.in_ok-address-2.ensures.value) number)
