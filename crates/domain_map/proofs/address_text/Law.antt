-- The statements of the laws, as terms.
use Rattle.std.proofs.Common.{◌≡◌, ℕ, ◌<◌, ◌^◌, List, [], ◌∷◌, Some, refl, sym, ap, ◌∙◌, arith, decimal}
use Rattle.std.specs.Prelude.{◌==◌, option_map, option_and_then}
use Rattle.std.specs.List.{slice_split}
use Rattle.std.proofs.lemmas.List.Splits.{slice_split_at}
use Rattle.std.proofs.lemmas.Option.{same_Some}
use Rattle.domain_map.specs.declared.address_text.address.Address.{Address}
use Rattle.domain_map.specs.declared.address_text.address.Address.TheVariants.{V4, V6}
use Rattle.domain_map.specs.address_text.Address.{IsAddress, IsAddressText, address_text, address_of_text, width_of}
use Rattle.domain_map.specs.address_text.Number.{number_of_text}
use Rattle.domain_map.specs.address_text.Prefix.{AddressBlock, IsBlock, IsPrefixText, prefix_text, block_of, block_of_parts}
use Rattle.domain_map.proofs.address_text.Parts.{undecimal, number_of_decimal}
use Rattle.domain_map.proofs.address_text.Texts.{computed, is_text, one_address, written, slashless}

pub address_texts_compute : (text : List ℕ) (a : Address) → IsAddressText text a → address_of_text text ≡ Some a
address_texts_compute = computed

pub computed_addresses_are_of_the_text : (text : List ℕ) (a : Address) → address_of_text text ≡ Some a → IsAddressText text a
computed_addresses_are_of_the_text = is_text

pub a_text_has_one_address : (text : List ℕ) (a b : Address) → IsAddressText text a → IsAddressText text b → a ≡ b
a_text_has_one_address = one_address

pub written_address_reads_back : (a : Address) → IsAddress a → IsAddressText (address_text a) a
written_address_reads_back = written

pub a_text_has_one_prefix : (text : List ℕ) (a b : AddressBlock) → IsPrefixText text a → IsPrefixText text b → a ≡ b
a_text_has_one_prefix text a b is_a is_b = same_Some a b (sym is_a ∙ is_b)

narrow : (a : Address) → width_of a < 256
narrow (V4 octets) = omega arith
narrow (V6 octets) = omega arith

pub written_prefix_reads_back : (block : AddressBlock) → IsBlock block → IsPrefixText (prefix_text block) block
written_prefix_reads_back block is =
    let a = block.address in
    let n = block.bits in
    let small : n < 2 ^ 64 = omega (arith, is.bits, narrow a) in
    let parts : slice_split (λ c. c == 47) (prefix_text block) ≡ address_text a ∷ decimal n ∷ [] =
    slice_split_at (λ c. c == 47) (address_text a) 47 (decimal n) (slashless a is.address) refl ∙ ap (λ ps. address_text a ∷ ps) (undecimal 47 n (omega arith) small) in
    let address = computed (address_text a) a (written a is.address) in
    let bits = number_of_decimal (width_of a) n (decimal n) small refl is.bits in
    ap block_of_parts parts ∙ ap (λ r. option_and_then (λ b. option_map (block_of b) (number_of_text (width_of b) (decimal n))) r) address
    ∙ ap (λ r. option_map (block_of a) r) bits ∙ ap (λ b. Some (record { address = b; bits = n })) is.clear
