-- Numbers of two and of four octets: the octets of a number, and the number of octets, undo each other.
use Rattle.std.proofs.Common.{◌≡◌, ℕ, ◌+◌, ◌/◌, ◌%◌, ◌^◌, ◌<◌, List, [], ◌∷◌, ◌++◌, length, take, sym, ap, ◌∙◌, append_assoc, arith}
use Rattle.std.specs.Prelude.{slice_index}
use Rattle.std.specs.Int.{w16, w32, to_be_bytes, from_be_bytes}
use Rattle.std.proofs.lemmas.Nat.{from_be_bytes-to_be_bytes_2, from_be_bytes-to_be_bytes_4}
use Rattle.std.proofs.lemmas.List.{take_more}
use Rattle.mls_label.specs.octet_grammar.Octets.{IsOctets}
use Rattle.mls_label.specs.octet_grammar.Numbers.{u16_at, u32_at}

-- the octets of the number at a place are those there
pub u16_octets : (s : List ℕ) (at : ℕ) → IsOctets s → to_be_bytes w16 (u16_at s at) ≡ slice_index s at ∷ slice_index s (at + 1) ∷ []
u16_octets s at octets =
    let n = u16_at s at in
    let a : n / 256 % 256 ≡ slice_index s at = omega (arith, octets.at at, octets.at (at + 1)) in
    let b : n % 256 ≡ slice_index s (at + 1) = omega (arith, octets.at (at + 1)) in
    λ i. a i ∷ b i ∷ []

pub four_octets : (a b c d : ℕ) → a < 256 → b < 256 → c < 256 → d < 256 → to_be_bytes w32 (from_be_bytes w32 (a ∷ b ∷ c ∷ d ∷ [])) ≡ a ∷ b ∷ c ∷ d ∷ []
four_octets a b c d la lb lc ld =
    let n = from_be_bytes w32 (a ∷ b ∷ c ∷ d ∷ []) in
    let first : n / 16777216 % 256 ≡ a = omega arith in
    let second : n / 65536 % 256 ≡ b = omega arith in
    let third : n / 256 % 256 ≡ c = omega arith in
    let fourth : n % 256 ≡ d = omega arith in
    λ i. first i ∷ second i ∷ third i ∷ fourth i ∷ []

pub u32_octets : (s : List ℕ) (at : ℕ) → IsOctets s → to_be_bytes w32 (u32_at s at) ≡ slice_index s at ∷ slice_index s (at + 1) ∷ slice_index s (at + 2) ∷ slice_index s (at + 3) ∷ []
u32_octets s at octets =
    four_octets (slice_index s at) (slice_index s (at + 1)) (slice_index s (at + 2)) (slice_index s (at + 3)) (octets.at at) (octets.at (at + 1)) (octets.at (at + 2)) (octets.at (at + 3))

pub u16_small : (s : List ℕ) (at : ℕ) → IsOctets s → u16_at s at < 65536
u16_small s at octets = omega (arith, octets.at at, octets.at (at + 1))

pub u32_small : (s : List ℕ) (at : ℕ) → IsOctets s → u32_at s at < 2 ^ 32
u32_small s at octets = omega (arith, octets.at at, octets.at (at + 1), octets.at (at + 2), octets.at (at + 3))

-- one number more was read
pub u16_more : (s : List ℕ) (at : ℕ) → IsOctets s → at + 1 < length s → take (at + 2) s ≡ take at s ++ to_be_bytes w16 (u16_at s at)
u16_more s at octets lt =
    let next : at + 2 ≡ at + 1 + 1 = omega arith in
    ap (λ n. take n s) next
    ∙ take_more s (at + 1) 0 (omega arith)
    ∙ ap (λ t. t ++ slice_index s (at + 1) ∷ []) (take_more s at 0 (omega arith))
    ∙ append_assoc (take at s) (slice_index s at ∷ []) (slice_index s (at + 1) ∷ [])
    ∙ ap (λ t. take at s ++ t) (sym (u16_octets s at octets))

-- and the number of a number's octets is that number
pub u16_written : (n : ℕ) (more : List ℕ) → n < 2 ^ 16 → u16_at (to_be_bytes w16 n ++ more) 0 ≡ n
u16_written n more fits = from_be_bytes-to_be_bytes_2 n fits

pub u32_written : (n : ℕ) (more : List ℕ) → n < 2 ^ 32 → u32_at (to_be_bytes w32 n ++ more) 0 ≡ n
u32_written n more fits = from_be_bytes-to_be_bytes_4 n fits
