-- How a call ends: what was asked for, what it finds outside and leaves there, its status, and the versions that it printed.
use Rattle.std.specs.Prelude.{ℕ, ◌≡◌, ◌≢◌, ◌⊎◌, ◌-◌, ◌<◌, ◌++◌, IsTrue, List, [], length, take, Contains, Option, Some, None}
use Rattle.std.specs.List.{All}
use Rattle.net_io.specs.Depot.{DepotState, SameHeld}
use Rattle.net_io.specs.Faults.{SameCounts}
use Rattle.net_io.specs.Sink.{WritesPrefix, WritesLess}
use Rattle.call_report.specs.Report.{Folder, Versions, Report, report_text}
use Rattle.call_report.specs.Stages.{Stage}
use Rattle.call_report.specs.Output.{Output, IsBegun, IsMade}
use Rattle.call_report.specs.Outside.{Outside, ReadRose, CreateRose, AppendRose, WriteRose, NoneFailed, NoFileFailed, NoInputFailed, NoWriteFailed}
use Rattle.call_report.specs.Printing.{EndsInLine}
use Rattle.call_report.specs.Says.{Says, reading, making}

-- the statuses of what the outside refused: a read or the making of a file, a write or an append, memory
abbrev pub IsRefusal : ℕ → Type 0
IsRefusal status = (status ≡ 3) ⊎ (status ≡ 4) ⊎ (status ≡ 6)

-- every other status: what was asked for decided, by an event or by its end, and the outside refused nothing before that
abbrev pub IsUnrefused : ℕ → Type 0
IsUnrefused status = IsRefusal status → ⊥

-- a read of the input in hand has failed, or the making of the output in hand, and something may be printed before that
abbrev pub FailedAfterText : Says → Versions → List Stage → Outside → Outside → Type 0
FailedAfterText says seen stages before after =
    ((read : ReadRose stages before after) × says.preceded seen stages (reading read.name))
    ⊎ ((make : CreateRose stages before after) × says.preceded seen stages (making make.name))

-- no append has failed, and a write has; or an append to the output in hand
abbrev pub FailsToWrite : List Stage → Outside → Outside → Type 0
FailsToWrite stages before after = (SameCounts before.folder.appends after.folder.appends × WriteRose before after) ⊎ AppendRose stages before after

-- What was asked for, and the folder where it tells what it holds, say of the status.
pub record EndsWith {C : Type 0} (says : Says) (request : Option C) (before after : Outside) (status : ℕ) (seen : Versions) (stages : List Stage) : Type 0 where
  -- the status is the one that is due, or a refusal's; where the folder tells nothing, it is due over some content
  pub due : IsTrue before.folder.tells → says.status before.folder.held status ⊎ IsRefusal status
  pub possible : says.possible status ⊎ IsRefusal status
  -- 1: exactly where the words are no form, but for want of memory
  pub no_form : status ≡ 1 → request ≡ None
  pub usage : request ≡ None → (status ≡ 1) ⊎ (status ≡ 6)
  -- 3: only where a read of the input in hand has failed in this call, or the making of the output in hand, and no write and no append has
  pub read_fault : status ≡ 3 → NoWriteFailed before after × (ReadRose stages before after ⊎ CreateRose stages before after)
  -- 4: only where no append has failed, and a write has, or an append to the output in hand; and no read and no making, unless one that text may precede
  pub write_fault : status ≡ 4 → FailsToWrite stages before after × (NoInputFailed before after ⊎ FailedAfterText says seen stages before after)
  -- 6: only where no write and no append has failed, and no read and no making, unless one that text may precede
  pub memory : status ≡ 6 → NoWriteFailed before after × (NoInputFailed before after ⊎ FailedAfterText says seen stages before after)
  -- with every other status no call of the folder has failed
  pub decided : IsUnrefused status → NoFileFailed before after
  -- and with 0, and 8, nothing at all
  pub unmoved : (status ≡ 0) ⊎ (status ≡ 8) → NoneFailed before after

-- The stages that a call has begun which printed these versions, by what the folder tells, or by what it may hold where it tells nothing.
pub record HasBegun (says : Says) (folder : DepotState) (seen : Versions) (stages : List Stage) : Type 0 where
  pub content : Folder
  pub told : IsTrue folder.tells → SameHeld folder.held content
  pub are : says.stages content seen stages

-- this text stands behind what was written
abbrev pub IsWritten : List ℕ → Outside → Outside → Type 0
IsWritten text before after = after.stream.written ≡ before.stream.written ++ text

-- The whole of a report was printed, and no write has failed; or, with another status than 0 and 8, a write of the event's own line has, and all that comes before this line was printed, and not all of it.
abbrev pub PrintsReport : Report → Outside → Outside → ℕ → Type 0
PrintsReport report before after status =
    ((after.stream.faults ≡ before.stream.faults) × IsWritten (report_text report) before after)
    ⊎ ((status ≢ 0) × (status ≢ 8) × WriteRose before after × EndsInLine report.body report.last before.stream.written after.stream.written)

-- No append has failed, and a write has, in the body of a report, before the event that decides.
pub record StopsInBody (says : Says) (before after : Outside) (seen : Versions) : Type 0 where
  pub appends : SameCounts before.folder.appends after.folder.appends
  pub report : Report
  pub has : says.report before.folder.held seen report
  pub some : 0 < length report.body
  pub part : IsTrue before.stream.tells → WritesLess report.body before.stream.written after.stream.written

-- An append to the output in hand has failed: what was printed begins a text that may stand there.
pub record StopsAtAppend (says : Says) (before after : Outside) (seen : Versions) (stages : List Stage) : Type 0 where
  pub rose : AppendRose stages before after
  pub text : List ℕ
  pub pauses : (report : Report) → says.report before.folder.held seen report → Contains report.pauses text
  pub part : IsTrue before.stream.tells → WritesPrefix text before.stream.written after.stream.written

-- the folder tells what it holds, where what is printed depends on that
abbrev pub KnowsReport : Says → DepotState → Type 0
KnowsReport says folder = says.reads → IsTrue folder.tells

-- What was printed.
pub record Prints (says : Says) (before after : Outside) (status : ℕ) (seen : Versions) (stages : List Stage) : Type 0 where
  -- the whole report, unless the outside refused something: it may, of the event's own line
  pub whole : IsTrue before.stream.tells → IsUnrefused status → (report : Report) × says.report before.folder.held seen report × PrintsReport report before after status
  -- with every status nothing, or some first octets of the report
  pub part : IsTrue before.stream.tells → IsWritten [] before after
      ⊎ ((report : Report) × says.report before.folder.held seen report × WritesPrefix (report_text report) before.stream.written after.stream.written)
  -- 3: all that may stand before a read
  pub pause : IsTrue before.stream.tells → status ≡ 3
      → (text : List ℕ) × IsWritten text before after × ((report : Report) → says.report before.folder.held seen report → Contains report.pauses text)
  -- 4: not all that comes before the deciding event, where it was a write that failed; no more than stands before an append, where it was one
  pub stop : status ≡ 4 → StopsInBody says before after seen ⊎ StopsAtAppend says before after seen stages

-- What the files hold, where the folder tells it: an output what was made of it, and each other name what it held.
pub record Leaves (says : Says) (before after : Outside) (status : ℕ) (seen : Versions) (stages : List Stage) : Type 0 where
  pub outputs : List Output
  pub are : says.outputs before.folder.held seen outputs
  pub begun : All (λ output. IsBegun output before.folder.held after.folder.held) outputs
  -- with every status the flows in front of the one in hand, if one is, have made all of theirs
  pub earlier : 0 < length seen → (outputs : List Output) × says.outputs before.folder.held (take (length seen - 1) seen) outputs
      × All (λ output. IsMade output before.folder.held after.folder.held) outputs
  -- and all have, unless the outside refused something
  pub whole : IsUnrefused status → All (λ output. IsMade output before.folder.held after.folder.held) outputs
  pub others : (name : List ℕ) → All (λ output. output.name ≢ name) outputs → after.folder.held name ≡ before.folder.held name
  -- nothing is made before the stage that makes it
  pub unmade : (name : List ℕ) → All (λ stage. stage.output ≢ Some name) stages → after.folder.held name ≡ before.folder.held name

-- how a call ends, by what its program says of each thing that may be asked for
pub record CallEnds {C : Type 0} (says : Option C → Says) (request : Option C) (before after : Outside) (status : ℕ) (seen : Versions) : Type 0 where
  pub stages : List Stage
  pub begun : HasBegun (says request) before.folder seen stages
  pub ends : EndsWith (says request) request before after status seen stages
  pub prints : KnowsReport (says request) before.folder → Prints (says request) before after status seen stages
  pub leaves : IsTrue before.folder.tells → Leaves (says request) before after status seen stages
  pub lawful : IsTrue before.folder.tells → (says request).lawful before.folder.held seen
  -- nothing is left out, unless the outside refused something
  pub whole : IsTrue before.folder.tells → IsUnrefused status → (says request).whole before.folder.held seen
  -- no receiver is given what its level doesn't dominate, where the label was kept
  pub access : IsTrue before.folder.tells → (says request).access before.folder.held seen
  -- and no hop lets a packet go on whose label it has no option for
  pub withheld : IsTrue before.folder.tells → (says request).withheld before.folder.held seen
  -- with 3 nothing stands there where nothing is printed before the call that failed, whether or not the folder tells what it holds
  pub silent : IsTrue before.stream.tells → status ≡ 3 → FailedAfterText (says request) seen stages before after ⊎ (after.stream.written ≡ before.stream.written)
  -- a call without an output makes nothing and appends nothing
  pub still : All (λ stage. stage.output ≡ None) stages → SameCounts before.folder.creates after.folder.creates × SameCounts before.folder.appends after.folder.appends
  pub folder_told : after.folder.tells ≡ before.folder.tells
  pub stream_told : after.stream.tells ≡ before.stream.tells

-- some call ends with this status
abbrev pub MayEnd : {C : Type 0} → (Option C → Says) → ℕ → Type 0
MayEnd {C} says status = (request : Option C) × (before : Outside) × (after : Outside) × (seen : Versions) × CallEnds says request before after status seen
