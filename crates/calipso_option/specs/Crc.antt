-- The check sequence of RFC 1662, Appendix C, as CALIPSO uses it (RFC 5570, section 5.1): a register of 16 bits.
use Rattle.std.specs.Prelude.{ℕ, zero, suc, ◌/◌, ◌%◌, ◌==◌, if◌then◌else◌, List, [], ◌∷◌, bit_xor}
use Rattle.std.specs.Int.{w16, bit_not}

-- the register shifted right by one; where the bit shifted out was 1, the polynomial 0x8408 is added
unfoldable pub shifted : ℕ → ℕ
shifted register = if register % 2 == 1 then bit_xor (register / 2) 33800 else register / 2

-- the register after so many shifts
abbrev pub shifted_times : ℕ → ℕ → ℕ
shifted_times zero register = register
shifted_times (suc n) register = shifted (shifted_times n register)

-- an octet is added to the low eight bits, which are then shifted out
unfoldable pub with_octet : ℕ → ℕ → ℕ
with_octet register octet = shifted_times 8 (bit_xor register octet)

-- the register after these octets
abbrev pub register_after : ℕ → List ℕ → ℕ
register_after register [] = register
register_after register (octet ∷ octets) = register_after (with_octet register octet) octets

-- the register begins with all bits set, and its complement is the checksum
unfoldable pub crc_of : List ℕ → ℕ
crc_of bytes = bit_not w16 (register_after 65535 bytes)
