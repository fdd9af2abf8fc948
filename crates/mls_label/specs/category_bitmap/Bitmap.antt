-- Bitmaps of categories, as CIPSO (FIPS 188, tag type 1) and CALIPSO (RFC 5570, section 5.1) carry them.
use Rattle.std.specs.Prelude.{ℕ, ◌+◌, ◌-◌, ◌*◌, ◌/◌, ◌%◌, ◌==◌, Bool, max, List, [], ◌∷◌, map, slice_index}
use Rattle.std.specs.List.{range_with_len}
use Rattle.std.specs.Int.{bit_at, from_bool}
use Rattle.mls_label.specs.Cats.{has, cats_where}

-- category c stands at bit 7 - c mod 8 of octet c / 8: category 0 is the most significant bit of the first octet
abbrev pub has_bit : List ℕ → ℕ → Bool
has_bit bitmap c = bit_at (slice_index bitmap (c / 8)) (7 - c % 8) == 1

-- the categories of a bitmap: those whose bit is 1
abbrev pub bitmap_cats : List ℕ → List ℕ
bitmap_cats bitmap = cats_where (has_bit bitmap)

-- the octets that a set needs: its highest category stands in the last of them
abbrev pub octets_needed : List ℕ → ℕ
octets_needed [] = 0
octets_needed (c ∷ cats) = max (c / 8 + 1) (octets_needed cats)

-- the number that bits stand for, the most significant first, behind those that stand for n
abbrev pub bits_after : ℕ → List Bool → ℕ
bits_after n [] = n
bits_after n (b ∷ bits) = bits_after (2 * n + from_bool b) bits

-- octet i of the bitmap of a set: the bits of its eight categories
unfoldable pub octet_of : List ℕ → ℕ → ℕ
octet_of cats i = bits_after 0 (map (has cats) (range_with_len (8 * i) 8))

-- the bitmap of a set in n octets
abbrev pub bitmap_of : List ℕ → ℕ → List ℕ
bitmap_of cats n = map (octet_of cats) (range_with_len 0 n)
