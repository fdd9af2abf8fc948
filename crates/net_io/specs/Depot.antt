-- What a folder of named files holds, and what the calls on it read and change. A name is its octets, and a name that holds nothing is absent.
use Rattle.std.specs.Prelude.{◌≡◌, ◌≢◌, ◌<◌, ◌≤◌, ◌+◌, ◌++◌, ◌^◌, ℕ, Bool, IsTrue, IsSome, List, [], length, take, drop, Option, Some, unwrap_or, Result}
use Rattle.net_io.specs.Faults.{CountsByName, SameCounts}

-- A folder as contracts see it: whether it tells what it holds, what each name holds, and how often a read, the making and an append of each name have failed.
pub record DepotState : Type 0 where
  pub tells : Bool
  pub held : List ℕ → Option (List ℕ)
  pub reads : List ℕ → ℕ
  pub creates : List ℕ → ℕ
  pub appends : List ℕ → ℕ

-- the octets of a file, none where there is no file
abbrev pub octets_of : Option (List ℕ) → List ℕ
octets_of file = unwrap_or file []

-- the first n octets of a buffer are those of a file from the octet `at` on, of which there are that many
abbrev pub IsRead : Option (List ℕ) → ℕ → ℕ → List ℕ → Type 0
IsRead file at n buffer = take n buffer ≡ take n (drop at (octets_of file))

-- at most the first n octets of a buffer are written
abbrev pub ChangesFirst : ℕ → List ℕ → List ℕ → Type 0
ChangesFirst n old new = (n ≤ length old) × (drop n new ≡ drop n old)

-- n octets of a file that is there, if the folder tells, stand in the front of a buffer: none only at the file's end. The octet behind them has a place too.
pub record ReadsAt (tells : Bool) (file : Option (List ℕ)) (at n : ℕ) (old new : List ℕ) : Type 0 where
  pub present : IsTrue tells → IsSome file
  pub octets : IsTrue tells → IsRead file at n new
  pub end : IsTrue tells → n ≡ 0 → 0 < length old → length (octets_of file) ≤ at
  pub rest : ChangesFirst n old new
  pub place : at + n < 2 ^ 64

-- Some first octets of a buffer were read, from a file if it is told, and the rest is as before.
pub record ReadsPrefix (tells : Bool) (file : Option (List ℕ)) (at : ℕ) (old new : List ℕ) : Type 0 where
  pub count : ℕ
  pub rest : ChangesFirst count old new
  pub octets : IsTrue tells → IsRead file at count new

-- n octets of these were taken: some, unless there are none
abbrev pub IsPart : ℕ → List ℕ → Type 0
IsPart n bytes = (n ≤ length bytes) × (0 < length bytes → 0 < n)

-- each name holds what it held
abbrev pub SameHeld : (List ℕ → Option (List ℕ)) → (List ℕ → Option (List ℕ)) → Type 0
SameHeld old new = (name : List ℕ) → new name ≡ old name

-- A name now holds these octets, and each other name what it held.
pub record NowHolds (name octets : List ℕ) (old new : List ℕ → Option (List ℕ)) : Type 0 where
  pub here : new name ≡ Some octets
  pub elsewhere : (other : List ℕ) → other ≢ name → new other ≡ old other

-- Some first octets of these, and not all, were appended to what a name holds, and each other name holds what it held.
pub record AppendsPrefix (name bytes : List ℕ) (old new : List ℕ → Option (List ℕ)) : Type 0 where
  pub count : ℕ
  pub within : count < length bytes
  pub holds : NowHolds name (octets_of (old name) ++ take count bytes) old new

-- Reads of a name: they change nothing, no number but those of reads moves, and these as one call's do.
pub record OnlyReads {T E : Type 0} (failed : E) (result : Result T E) (name : List ℕ) (old new : DepotState) : Type 0 where
  pub told : new.tells ≡ old.tells
  pub kept : IsTrue old.tells → SameHeld old.held new.held
  pub reads : CountsByName failed result name old.reads new.reads
  pub creates : SameCounts old.creates new.creates
  pub appends : SameCounts old.appends new.appends

-- the making of a name: no number but those of makings moves
pub record OnlyCreates {T E : Type 0} (failed : E) (result : Result T E) (name : List ℕ) (old new : DepotState) : Type 0 where
  pub told : new.tells ≡ old.tells
  pub reads : SameCounts old.reads new.reads
  pub creates : CountsByName failed result name old.creates new.creates
  pub appends : SameCounts old.appends new.appends

-- appends to a name: no number but those of appends moves
pub record OnlyAppends {T E : Type 0} (failed : E) (result : Result T E) (name : List ℕ) (old new : DepotState) : Type 0 where
  pub told : new.tells ≡ old.tells
  pub reads : SameCounts old.reads new.reads
  pub creates : SameCounts old.creates new.creates
  pub appends : CountsByName failed result name old.appends new.appends
