-- Octet strings, as lists of numbers.
use Rattle.std.specs.Prelude.{ℕ, ◌<◌, List, slice_index}

-- each number is an octet
pub record IsOctets (bytes : List ℕ) : Type 0 where
  pub at : (i : ℕ) → slice_index bytes i < 256
