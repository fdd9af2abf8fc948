-- The register and its checksum.
use Rattle.std.proofs.Common.{◌≡◌, ℕ, ◌<◌, ◌^◌, List, [], ◌∷◌, ◌++◌, refl, ap, sym, ◌∙◌, append_assoc, arith}
use Rattle.std.specs.Int.{w16, bit_not}
use Rattle.calipso_option.specs.Crc.{with_octet, register_after, crc_of}

pub register-append : (register : ℕ) (a b : List ℕ) → register_after register (a ++ b) ≡ register_after (register_after register a) b
register-append register [] b = refl
register-append register (octet ∷ a) b = register-append (with_octet register octet) a b

-- in three parts
pub crc_parts : (a b c : List ℕ) (head place register : ℕ) → head ≡ register_after 65535 a → place ≡ register_after head b → register ≡ register_after place c → bit_not w16 register ≡ crc_of (a ++ (b ++ c))
unfolding crc_of
crc_parts a b c head place register first second third =
    ap (bit_not w16)
    (third
    ∙ ap (λ r. register_after r c) (second ∙ ap (λ r. register_after r b) first ∙ sym (register-append 65535 a b))
    ∙ sym (register-append 65535 (a ++ b) c)
    ∙ ap (register_after 65535) (append_assoc a b c))

pub crc_small : (bytes : List ℕ) → crc_of bytes < 2 ^ 16
unfolding crc_of
crc_small bytes = omega arith
