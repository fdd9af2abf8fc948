-- How the making of a capture ends, with what it leaves of the file.
use Rattle.std.specs.Prelude.{ℕ, ◌≡◌, ◌≢◌, ◌⊎◌, IsTrue, List, take, Option, Some, None, Result, Ok, Err}
use Rattle.net_io.specs.Depot.{DepotState}
use Rattle.net_io.specs.Faults.{Rose, SameCounts}
use Rattle.made_run.specs.made_capture.Capture.{capture_made}
use Rattle.made_run.specs.declared.stop.MadeStop.{MadeStop}
use Rattle.made_run.specs.declared.stop.MadeStop.TheVariants.{Create, Append, OutOfMemory}

-- what stopped it, if it was stopped
abbrev pub stop_of : {T : Type 0} → Result T MadeStop → Option MadeStop
stop_of (Ok given) = None
stop_of (Err stop) = Some stop

-- the numbers of failed makings and appends: that of what stopped it rose, and no other has moved
abbrev pub IsMakeCause : List ℕ → Option MadeStop → DepotState → DepotState → Type 0
IsMakeCause name None before after = SameCounts before.creates after.creates × SameCounts before.appends after.appends
IsMakeCause name (Some Create) before after = Rose (before.creates name) (after.creates name) × SameCounts before.appends after.appends
IsMakeCause name (Some Append) before after = SameCounts before.creates after.creates × Rose (before.appends name) (after.appends name)
IsMakeCause name (Some OutOfMemory) before after = SameCounts before.creates after.creates × SameCounts before.appends after.appends

-- The capture of so many packets from a seed was made under a name, up to what stopped it. No file is read.
pub record MakesCapture (seed count : ℕ) (name : List ℕ) (stop : Option MadeStop) (before after : DepotState) : Type 0 where
  pub told : after.tells ≡ before.tells
  -- with every stop the name holds what it held, or some first octets of the capture
  pub begun : IsTrue before.tells → (after.held name ≡ before.held name) ⊎ ((octets : ℕ) × (after.held name ≡ Some (take octets (capture_made seed count))))
  pub whole : stop ≡ None → IsTrue before.tells → after.held name ≡ Some (capture_made seed count)
  pub others : IsTrue before.tells → (other : List ℕ) → other ≢ name → after.held other ≡ before.held other
  pub reads : SameCounts before.reads after.reads
  pub cause : IsMakeCause name stop before after
