-- A maker of packets.
use Rattle.std.specs.Prelude.{ℕ}

-- What is seen of a maker: the number that it began with, and how many packets it has made.
pub record Making : Type 0 where
  pub seed : ℕ
  pub made : ℕ
