-- A script: what its lines say together, or the first fault or passed limit.
use Rattle.std.specs.Prelude.{◌≡◌, ℕ, ◌+◌, nat_lt, List, [], ◌∷◌, length, map, option_map, unwrap_or, Result, Ok, Err, if◌then◌else◌}
use Rattle.std.specs.List.{slice_get}
use Rattle.std.specs.Str.Lines.{lines}
use Rattle.script_lines.specs.declared.stop.LimitName.{LimitName}
use Rattle.script_lines.specs.declared.stop.LimitName.TheVariants.{Octets}
use Rattle.script_lines.specs.declared.stop.LineStop.{LineStop}
use Rattle.script_lines.specs.declared.stop.LineStop.TheVariants as Of
use Rattle.label_commands.specs.node_readings.Reading.{NamedMeanings}
use Rattle.script_lines.specs.Form.{Edition}
use Rattle.label_commands.specs.declared.script.Script.{Script}
use Rattle.label_commands.specs.declared.stop.ScriptStop.{ScriptStop}
use Rattle.label_commands.specs.declared.stop.ScriptStop.TheVariants as Stop
use Rattle.label_commands.specs.Above.{Above, nothing_above}
use Rattle.label_commands.specs.Line.{limit_of, read_line}

-- a limit was passed
abbrev pub passed : LimitName → ScriptStop
passed what = Stop.Limit what (limit_of what)

-- why a line stops the script; lines are counted from 1
abbrev pub stop_at : ℕ → LineStop → ScriptStop
stop_at number (Of.Fault found) = Stop.Fault (record { line = number; octet = found.octet; kind = found.kind })
stop_at number (Of.Limit what) = passed what
stop_at number Of.OutOfMemory = Stop.OutOfMemory

-- the lines one after the other, up to the first that is refused
abbrev pub read_lines : Edition → List ℕ → Above → ℕ → List (List ℕ) → Result Above ScriptStop
read_lines edition own above number [] = Ok above
read_lines edition own above number (line ∷ rest) = elim (read_line edition own above number line) [
  | Err stop ↦ Err (stop_at number stop)
  | Ok next ↦ read_lines edition own next (number + 1) rest
]

-- a node without a reading line
abbrev pub no_meanings : NamedMeanings
no_meanings = record { levels = []; cats = [] }

-- the script that lines make; a node without a reading line has no named meanings
abbrev pub script_of : Above → Script
script_of above = record { nodes = above.nodes; steps = above.steps; flows = above.flows; readings = map (λ named. unwrap_or named no_meanings) above.readings }

-- the script of a text, under its own name
unfoldable pub read_text : Edition → List ℕ → List ℕ → Result Script ScriptStop
read_text edition own text =
    if nat_lt (limit_of Octets) (length text) then Err (passed Octets)
    else (elim (read_lines edition own nothing_above 1 (lines text)) [ Ok above ↦ Ok (script_of above) | Err stop ↦ Err stop ])

abbrev pub IsScript : Edition → List ℕ → List ℕ → Script → Type 0
IsScript edition own text script = read_text edition own text ≡ Ok script

-- the stop is that of the text; want of memory is free
abbrev pub IsScriptStop : Edition → List ℕ → List ℕ → ScriptStop → Type 0
IsScriptStop edition own text Stop.OutOfMemory = Unit {0}
IsScriptStop edition own text stop = read_text edition own text ≡ Err stop

-- how many steps stand above a flow, counted from 0; behind the last flow, all
abbrev pub before : Script → ℕ → ℕ
before script flow = unwrap_or (option_map (λ f. f.before) (slice_get script.flows flow)) (length script.steps)

-- how many stand above the next flow
abbrev pub after : Script → ℕ → ℕ
after script flow = before script (flow + 1)
