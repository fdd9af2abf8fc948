-- Stops of lines.
use Rattle.std.specs.Prelude.{◌≡◌, Result, Err}
use Rattle.label_commands.specs.declared.stop.ScriptStop.{ScriptStop}
use Rattle.label_commands.specs.declared.stop.ScriptStop.TheVariants as Stop
use Rattle.label_commands.specs.Above.{Above}

-- the stop is that of the lines; want of memory is free
abbrev pub IsStopOfLines : Result Above ScriptStop → ScriptStop → Type 0
IsStopOfLines read Stop.OutOfMemory = Unit {0}
IsStopOfLines read stop = read ≡ Err stop
