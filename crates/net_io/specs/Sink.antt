-- What a stream has taken.
use Rattle.std.specs.Prelude.{◌≡◌, ◌≤◌, ◌<◌, ◌++◌, ℕ, Bool, List, length, take}

-- A stream as contracts see it: whether it tells what was written, all that was, and how often a write has failed.
pub record SinkState : Type 0 where
  pub tells : Bool
  pub written : List ℕ
  pub faults : ℕ

-- Some first octets of these were written, and no more.
pub record WritesPrefix (bytes old new : List ℕ) : Type 0 where
  pub count : ℕ
  pub within : count ≤ length bytes
  pub written : new ≡ old ++ take count bytes

-- the same, and not all of them
pub record WritesLess (bytes old new : List ℕ) : Type 0 where
  pub count : ℕ
  pub within : count < length bytes
  pub written : new ≡ old ++ take count bytes
