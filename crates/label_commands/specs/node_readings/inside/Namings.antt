-- The namings that count.
use Rattle.std.specs.Prelude.{◌≡◌, ℕ, Bool, true, List}
use Rattle.doi_table.specs.Pairs.{number_by}
use Rattle.label_commands.specs.node_readings.Reading.{names_once}

-- each number has the meaning that is named for it first, and there are no other pairs where each is named once
pub record AreNamings (pairs first : List (ℕ × ℕ)) (once : Bool) : Type 0 where
  pub same : (n : ℕ) → number_by pairs n ≡ number_by first n
  pub once_is : once ≡ names_once pairs
  pub whole : once ≡ true → first ≡ pairs
