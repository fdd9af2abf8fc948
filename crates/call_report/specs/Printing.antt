-- How text is handed to a stream through what waits, and how a report ends.
use Rattle.std.specs.Prelude.{ℕ, ◌≡◌, ◌⊎◌, ◌<◌, ◌++◌, IsTrue, List, length, take, Result, OnOk, OnErr}
use Rattle.net_io.specs.declared.fault.IoFault.{IoFault}
use Rattle.net_io.specs.declared.fault.IoFault.TheVariants.{Failed}
use Rattle.net_io.specs.Faults.{Counts, Rose}
use Rattle.net_io.specs.Sink.{SinkState, WritesPrefix, WritesLess}
use Rattle.call_report.specs.declared.status.Status.{Status}
use Rattle.call_report.specs.declared.status.Status.TheVariants.{WriteFault, OutOfMemory}

-- Of a text that is to be written, this was sent, and this still waits.
pub record Goes (text waiting : List ℕ) (before after : SinkState) : Type 0 where
  pub sent : List ℕ
  pub all : sent ++ waiting ≡ text
  pub written : IsTrue before.tells → after.written ≡ before.written ++ sent

-- a text of which not all was sent, since a write failed
pub record Breaks (text : List ℕ) (before after : SinkState) : Type 0 where
  pub some : 0 < length text
  pub written : IsTrue before.tells → WritesLess text before.written after.written

-- All of a body was written, and of the line behind it some first octets, and not all.
pub record EndsInLine (body line old new : List ℕ) : Type 0 where
  pub count : ℕ
  pub within : count < length line
  pub written : new ≡ old ++ (body ++ take count line)

-- A text was handed on behind what waits: what was sent with what waits now is all of it; after a failure a beginning was sent.
pub record HandsOn {T : Type 0} (text waiting waiting' : List ℕ) (result : Result T IoFault) (before after : SinkState) : Type 0 where
  pub ok : OnOk result (Goes (waiting ++ text) waiting' before after)
  pub err : OnErr result (Breaks (waiting ++ text) before after)
  pub told : after.tells ≡ before.tells
  pub counts : Counts Failed result before.faults after.faults

-- A report under way: this text was handed on but for what waits, and no write has failed.
pub record IsUnderWay (text waiting : List ℕ) (before now : SinkState) : Type 0 where
  pub goes : Goes text waiting before now
  pub told : now.tells ≡ before.tells
  pub faults : now.faults ≡ before.faults

-- How a report was printed by a call that is to end so: all of it; or for want of memory some first octets of it, and no write has failed; or one
-- has failed, in the body, or in the line of the event, which came first.
pub record Printed (body last : List ℕ) (due status : Status) (before after : SinkState) : Type 0 where
  pub told : after.tells ≡ before.tells
  pub how :
      ((status ≡ due) × (after.faults ≡ before.faults) × (IsTrue before.tells → after.written ≡ before.written ++ (body ++ last)))
      ⊎ ((status ≡ OutOfMemory) × (after.faults ≡ before.faults) × (IsTrue before.tells → WritesPrefix (body ++ last) before.written after.written))
      ⊎ ((status ≡ WriteFault) × Rose before.faults after.faults × Breaks body before after)
      ⊎ ((status ≡ due) × Rose before.faults after.faults × (0 < length last) × (IsTrue before.tells → EndsInLine body last before.written after.written))
