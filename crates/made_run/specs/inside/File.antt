-- The file of a capture that is being made.
use Rattle.std.specs.Prelude.{ℕ, ◌≡◌, ◌≢◌, IsTrue, List, [], ◌++◌, Option, Some, None}
use Rattle.net_io.specs.Depot.{DepotState}
use Rattle.net_io.specs.Faults.{Rose, SameCounts}
use Rattle.made_run.specs.declared.stop.MadeStop.{MadeStop}
use Rattle.made_run.specs.declared.stop.MadeStop.TheVariants.{Create, Append, OutOfMemory}
use Rattle.made_run.specs.Ends.{IsMakeCause}

-- a file holds a text but for what waits
pub record IsSent (text waits : List ℕ) (file : Option (List ℕ)) : Type 0 where
  pub sent : List ℕ
  pub holds : file ≡ Some sent
  pub all : sent ++ waits ≡ text

-- it holds some first octets of a text
abbrev pub IsBegun : List ℕ → Option (List ℕ) → Type 0
IsBegun text file = (rest : List ℕ) × IsSent text rest file

-- the numbers of failed appends: none has moved, unless it stopped for that
abbrev pub AppendsMove : List ℕ → Option MadeStop → (List ℕ → ℕ) → (List ℕ → ℕ) → Type 0
AppendsMove name None old new = SameCounts old new
AppendsMove name (Some Create) old new = ⊥
AppendsMove name (Some Append) old new = Rose (old name) (new name)
AppendsMove name (Some OutOfMemory) old new = SameCounts old new

-- Octets were appended to this name alone, up to this stop.
pub record HasAppended (name : List ℕ) (stop : Option MadeStop) (old new : DepotState) : Type 0 where
  pub told : new.tells ≡ old.tells
  pub others : IsTrue old.tells → (other : List ℕ) → other ≢ name → new.held other ≡ old.held other
  pub reads : SameCounts old.reads new.reads
  pub creates : SameCounts old.creates new.creates
  pub moved : AppendsMove name stop old.appends new.appends

-- What waits was appended, up to this stop, whatever text it is the end of.
pub record HasSent (name : List ℕ) (stop : Option MadeStop) (waits waits' : List ℕ) (old new : DepotState) : Type 0 where
  pub appended : HasAppended name stop old new
  pub sent : stop ≡ None → waits' ≡ []
  pub text : IsTrue old.tells → (text : List ℕ) → IsSent text waits (old.held name) → (rest : List ℕ) × IsSent text rest (new.held name) × (stop ≡ None → rest ≡ [])

-- The file was made empty, up to this stop.
pub record HasBegun (name : List ℕ) (stop : Option MadeStop) (old new : DepotState) : Type 0 where
  pub told : new.tells ≡ old.tells
  pub here : stop ≡ None → IsTrue old.tells → new.held name ≡ Some []
  pub kept : stop ≢ None → IsTrue old.tells → new.held name ≡ old.held name
  pub others : IsTrue old.tells → (other : List ℕ) → other ≢ name → new.held other ≡ old.held other
  pub reads : SameCounts old.reads new.reads
  pub cause : IsMakeCause name stop old new
