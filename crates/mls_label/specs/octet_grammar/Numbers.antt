-- Numbers of two and of four octets, in network order.
use Rattle.std.specs.Prelude.{ℕ, ◌+◌, List, [], ◌∷◌, slice_index}
use Rattle.std.specs.Int.{w16, w32, from_be_bytes}

-- the number of two octets at this place
abbrev pub u16_at : List ℕ → ℕ → ℕ
u16_at s at = from_be_bytes w16 (slice_index s at ∷ slice_index s (at + 1) ∷ [])

-- the number of four octets at this place
abbrev pub u32_at : List ℕ → ℕ → ℕ
u32_at s at = from_be_bytes w32 (slice_index s at ∷ slice_index s (at + 1) ∷ slice_index s (at + 2) ∷ slice_index s (at + 3) ∷ [])
