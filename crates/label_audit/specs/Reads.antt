-- Reads of several files.
use Rattle.std.specs.Prelude.{◌≡◌, ◌≤◌, ℕ, IsTrue, List, Contains, Result, OnOk, IsErrOf}
use Rattle.net_io.specs.Depot.{DepotState, SameHeld}
use Rattle.net_io.specs.Faults.{Rose, SameCounts}

-- The numbers of failed reads over calls on some names: none falls, all stand after each answer but Failed, and this comes only where that of one of
-- the names rose.
pub record CountsAmong {T E : Type 0} (failed : E) (result : Result T E) (names : List (List ℕ)) (old new : List ℕ → ℕ) : Type 0 where
  pub no_less : (other : List ℕ) → old other ≤ new other
  pub ok : OnOk result (SameCounts old new)
  pub still : (IsErrOf result failed → ⊥) → SameCounts old new
  pub cause : IsErrOf result failed → (name : List ℕ) × Contains names name × Rose (old name) (new name)

-- Reads of some names: they change nothing, and no number but those of reads moves.
pub record OnlyReadsAmong {T E : Type 0} (failed : E) (result : Result T E) (names : List (List ℕ)) (old new : DepotState) : Type 0 where
  pub told : new.tells ≡ old.tells
  pub kept : IsTrue old.tells → SameHeld old.held new.held
  pub reads : CountsAmong failed result names old.reads new.reads
  pub creates : SameCounts old.creates new.creates
  pub appends : SameCounts old.appends new.appends
