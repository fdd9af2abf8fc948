-- What the folders and the streams in memory hold, how many of their calls have failed, and which fail.
use Rattle.std.specs.Prelude.{◌≡◌, ◌⊎◌, ◌+◌, ◌-◌, ◌^◌, min, ℕ, true, List, [], ◌∷◌, Contains, Option, Some, None, Result, IsErr, IsErrOf}
use Rattle.net_io.specs.Depot.{DepotState}
use Rattle.net_io.specs.Sink.{SinkState}
use Rattle.net_io.specs.Failed.{failed_in}
use Rattle.net_io.specs.Faults.{SameCounts}
use Rattle.net_io.specs.Folder.{held_in}
use Rattle.net_io.specs.declared.fault.IoFault.{IoFault}
use Rattle.net_io.specs.declared.fault.IoFault.TheVariants.{Failed}
use Rattle.net_io.specs.declared.failed.DepotCall.{DepotCall}
use Rattle.net_io.specs.declared.failed.DepotCall.TheVariants.{Read, Create, Append}
use Rattle.net_io.specs.declared.failed.FailedCall.{FailedCall}
use Rattle.net_io.specs.declared.folder.NamedFile.{NamedFile}
use Rattle.net_io.specs.declared.safe_depot.SafeDepot.{SafeDepot}
use Rattle.net_io.specs.declared.safe_sink.SafeSink.{SafeSink}
use Rattle.net_io.specs.declared.memory_depot.MemoryDepot.{MemoryDepot}
use Rattle.net_io.specs.declared.memory_sink.MemorySink.{MemorySink}

-- files and failed calls in memory: a number of faults is how many of the calls are of that kind on that name
abbrev pub files_state : List NamedFile → List FailedCall → DepotState
files_state files failed = record {
  tells = true;
  held = held_in files;
  reads = failed_in failed Read;
  creates = failed_in failed Create;
  appends = failed_in failed Append;
}

abbrev pub safe_state : SafeDepot → DepotState
safe_state depot = files_state depot.files.items depot.failed.items

abbrev pub first_of : List FailedCall → Option DepotCall
first_of [] = None
first_of (call ∷ calls) = Some call.call

-- the kind of the first call that has failed
abbrev pub safe_failed : SafeDepot → Option DepotCall
safe_failed depot = first_of depot.failed.items

-- a folder that holds nothing, of which no call has failed
pub record IsFresh (state : DepotState) : Type 0 where
  pub held : (name : List ℕ) → state.held name ≡ None
  pub reads : (name : List ℕ) → state.reads name ≡ 0
  pub creates : (name : List ℕ) → state.creates name ≡ 0
  pub appends : (name : List ℕ) → state.appends name ≡ 0

-- no number of faults has moved
pub record SameFaults (old new : DepotState) : Type 0 where
  pub reads : SameCounts old.reads new.reads
  pub creates : SameCounts old.creates new.creates
  pub appends : SameCounts old.appends new.appends

abbrev pub memory_state : MemoryDepot → DepotState
memory_state depot = safe_state depot.kept

abbrev pub memory_failed : MemoryDepot → Option DepotCall
memory_failed depot = safe_failed depot.kept

-- a stream in memory none of whose writes fails
abbrev pub safe_sink_state : SafeSink → SinkState
safe_sink_state sink = record { tells = true; written = sink.written.items; faults = 0 }

abbrev pub memory_sink_state : MemorySink → SinkState
memory_sink_state sink = record { tells = true; written = sink.written.items; faults = sink.faults }

-- Which calls fail by plan: the numbers of those that do, all calls counted together from 1; the most octets that a call moves; and how many calls there were.
pub record CallPlan : Type 0 where
  pub fail : List ℕ
  pub piece : ℕ
  pub calls : ℕ

abbrev pub memory_plan : MemoryDepot → CallPlan
memory_plan depot = record { fail = depot.plan.fail.items; piece = depot.plan.piece; calls = depot.plan.calls }

abbrev pub memory_sink_plan : MemorySink → CallPlan
memory_sink_plan sink = record { fail = sink.plan.fail.items; piece = sink.plan.piece; calls = sink.plan.calls }

-- One call is counted. Where its number is planned to fail it isn't Ok; and it has Failed only there, or for the other cause.
pub record FollowsPlan {T : Type 0} (other : Type 0) (result : Result T IoFault) (old new : CallPlan) : Type 0 where
  pub counted : new.calls ≡ min (old.calls + 1) (2 ^ 64 - 1)
  pub fail : new.fail ≡ old.fail
  pub piece : new.piece ≡ old.piece
  pub planned : Contains old.fail new.calls → IsErr result
  pub cause : IsErrOf result Failed → Contains old.fail new.calls ⊎ other
