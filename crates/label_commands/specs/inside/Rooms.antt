-- Rooms for the readings of a script's nodes.
use Rattle.std.specs.Prelude.{ℕ, ◌<◌, ◌≤◌, List, length, Option}
use Rattle.std.specs.Option.{ForSome}
use Rattle.label_commands.specs.node_readings.Reading.{NamedMeanings}

-- each node has one, the current one among them
pub record HasRooms (nodes : List (List ℕ)) (current : Option ℕ) (readings : List (Option NamedMeanings)) : Type 0 where
  pub each : length nodes ≤ length readings
  pub one : ForSome current (λ node. node < length readings)
