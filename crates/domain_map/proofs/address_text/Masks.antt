-- The first bits of octets.
use Rattle.std.proofs.Common.{◌≡◌, ℕ, zero, suc, ◌-◌, ◌%◌, ◌^◌, ◌≤◌, List, [], ◌∷◌, refl, ap, ap₂, arith}
use Rattle.domain_map.specs.declared.address_text.address.Address.{Address}
use Rattle.domain_map.specs.declared.address_text.address.Address.TheVariants.{V4, V6}
use Rattle.domain_map.specs.address_text.Address.{IsAddress, width_of}
use Rattle.domain_map.specs.address_text.Prefix.{first_bits, masked, block_of, IsBlock}

-- clearing the last k bits a second time changes nothing
cleared_once : (k o : ℕ) → k ≤ 8 → (o - o % 2 ^ k) - (o - o % 2 ^ k) % 2 ^ k ≡ o - o % 2 ^ k
cleared_once zero o le = omega arith
cleared_once (suc zero) o le = omega arith
cleared_once (suc (suc zero)) o le = omega arith
cleared_once (suc (suc (suc zero))) o le = omega arith
cleared_once (suc (suc (suc (suc zero)))) o le = omega arith
cleared_once (suc (suc (suc (suc (suc zero))))) o le = omega arith
cleared_once (suc (suc (suc (suc (suc (suc zero)))))) o le = omega arith
cleared_once (suc (suc (suc (suc (suc (suc (suc zero))))))) o le = omega arith
cleared_once (suc (suc (suc (suc (suc (suc (suc (suc zero)))))))) o le = omega arith
cleared_once (suc (suc (suc (suc (suc (suc (suc (suc (suc k))))))))) o le = absurd (omega arith)

first_bits_once : (bits : ℕ) (octets : List ℕ) → first_bits bits (first_bits bits octets) ≡ first_bits bits octets
first_bits_once bits [] = refl
first_bits_once bits (o ∷ os) = ap₂ (λ x xs. x ∷ xs) (cleared_once (8 - bits) o (omega arith)) (first_bits_once (bits - 8) os)

pub width-masked : (bits : ℕ) (address : Address) → width_of (masked bits address) ≡ width_of address
width-masked bits (V4 octets) = refl
width-masked bits (V6 octets) = refl

pub is_block : (address : Address) (bits : ℕ) → IsAddress (masked bits address) → bits ≤ width_of address → IsBlock (block_of address bits)
is_block (V4 octets) bits is le = record { address = is; bits = le; clear = ap V4 (first_bits_once bits octets) }
is_block (V6 octets) bits is le = record { address = is; bits = le; clear = ap V6 (first_bits_once bits octets) }
