-- What the type of a reading keeps.
use Rattle.std.specs.Prelude.{◌≡◌, ℕ, List}
use Rattle.doi_table.specs.Pairs.{flipped}
use Rattle.label_commands.specs.node_readings.Reading.{IsReading}

-- its pairs are a reading, and those of categories are kept the other way round too
pub record IsKept (levels cats by_meaning : List (ℕ × ℕ)) : Type 0 where
  pub reading : IsReading (record { levels = levels; cats = cats })
  pub turned : by_meaning ≡ flipped cats
