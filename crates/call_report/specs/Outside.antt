-- The outside at a moment, and what has failed there between two.
use Rattle.std.specs.Prelude.{ℕ, ◌≡◌, IsTrue, List, Some}
use Rattle.net_io.specs.Depot.{DepotState, SameHeld}
use Rattle.net_io.specs.Sink.{SinkState}
use Rattle.net_io.specs.Faults.{Rose, SameCounts}
use Rattle.call_report.specs.Stages.{Stage, input_in_hand, output_in_hand}

-- the folder of files and the stream out
pub record Outside : Type 0 where
  pub folder : DepotState
  pub stream : SinkState

-- a read of the input in hand has failed
pub record ReadRose (stages : List Stage) (before after : Outside) : Type 0 where
  pub name : List ℕ
  pub in_hand : input_in_hand stages ≡ Some name
  pub rose : Rose (before.folder.reads name) (after.folder.reads name)

-- the making of the output in hand has failed
pub record CreateRose (stages : List Stage) (before after : Outside) : Type 0 where
  pub name : List ℕ
  pub in_hand : output_in_hand stages ≡ Some name
  pub rose : Rose (before.folder.creates name) (after.folder.creates name)

-- an append to the output in hand has failed
pub record AppendRose (stages : List Stage) (before after : Outside) : Type 0 where
  pub name : List ℕ
  pub in_hand : output_in_hand stages ≡ Some name
  pub rose : Rose (before.folder.appends name) (after.folder.appends name)

-- a write to the stream has failed
abbrev pub WriteRose : Outside → Outside → Type 0
WriteRose before after = Rose before.stream.faults after.stream.faults

-- no number of faults has moved, of whatever name
pub record NoneFailed (before after : Outside) : Type 0 where
  pub reads : SameCounts before.folder.reads after.folder.reads
  pub creates : SameCounts before.folder.creates after.folder.creates
  pub appends : SameCounts before.folder.appends after.folder.appends
  pub writes : after.stream.faults ≡ before.stream.faults

-- no call of the folder has failed, of whatever name
pub record NoFileFailed (before after : Outside) : Type 0 where
  pub reads : SameCounts before.folder.reads after.folder.reads
  pub creates : SameCounts before.folder.creates after.folder.creates
  pub appends : SameCounts before.folder.appends after.folder.appends

-- no read and no making has failed, of whatever name
pub record NoInputFailed (before after : Outside) : Type 0 where
  pub reads : SameCounts before.folder.reads after.folder.reads
  pub creates : SameCounts before.folder.creates after.folder.creates

-- no write to the stream has failed, and no append, of whatever name
pub record NoWriteFailed (before after : Outside) : Type 0 where
  pub writes : after.stream.faults ≡ before.stream.faults
  pub appends : SameCounts before.folder.appends after.folder.appends

-- Of a folder nothing but numbers of failed reads has moved.
pub record IsOnlyRead (old new : DepotState) : Type 0 where
  pub told : new.tells ≡ old.tells
  pub kept : IsTrue old.tells → SameHeld old.held new.held
  pub creates : SameCounts old.creates new.creates
  pub appends : SameCounts old.appends new.appends
