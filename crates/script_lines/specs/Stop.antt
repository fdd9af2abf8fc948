-- Why a line is refused.
use Rattle.std.specs.Prelude.{◌≡◌, ℕ, Result, Ok, Err}
use Rattle.script_lines.specs.declared.stop.ScriptKind.{ScriptKind}
use Rattle.script_lines.specs.declared.stop.LineStop.{LineStop}
use Rattle.script_lines.specs.declared.stop.LineStop.TheVariants as Stop

-- a fault at a place of the line
abbrev pub fault : ℕ → ScriptKind → LineStop
fault octet kind = Stop.Fault (record { octet = octet; kind = kind })

-- the stop is that of the result; want of memory is free
abbrev pub IsStopOf : {X : Type 0} → Result X LineStop → LineStop → Type 0
IsStopOf read Stop.OutOfMemory = Unit {0}
IsStopOf read stop = read ≡ Err stop

-- the first stop, or else what follows from the value
abbrev pub and_next : {X Y : Type 0} → Result X LineStop → (X → Result Y LineStop) → Result Y LineStop
and_next (Err stop) next = Err stop
and_next (Ok x) next = next x
