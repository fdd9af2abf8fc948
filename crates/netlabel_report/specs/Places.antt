-- Where the commands of a script stand: each is a line whose first word is none of `node`, `reading` and `flow`, of the node that the last `node` line above it names.
use Rattle.std.specs.Prelude.{ℕ, ◌+◌, Bool, false, not, ◌||◌, List, [], ◌∷◌, ◌++◌, codes, Option, Some, None, Result, Ok, Err, if◌then◌else◌}
use Rattle.std.specs.Str.{bytes_eq}
use Rattle.std.specs.Str.Lines.{lines}
use Rattle.domain_map.specs.address_text.Name.{name_of_text}
use Rattle.script_lines.specs.Word.{LineWord, words_of_line}
use Rattle.label_commands.specs.declared.script.Script.{Script}
use Rattle.label_commands.specs.declared.stop.ScriptStop.{ScriptStop}
use Rattle.call_report.specs.script_input.ScriptFile.{script_read}
use Rattle.call_report.specs.Report.{Folder}
use Rattle.netlabel_report.specs.declared.report_telling.commands.CommandPlace.{CommandPlace}

-- a line that begins with this word is no command
abbrev pub is_no_command : List ℕ → Bool
is_no_command word = bytes_eq word (codes "node") || (bytes_eq word (codes "reading") || bytes_eq word (codes "flow"))

-- a line of these words is one
abbrev pub is_command : List LineWord → Bool
is_command [] = false
is_command (first ∷ words) = not (is_no_command first.text)

-- the node that is the current one behind a line of these words
abbrev pub node_behind : Option (List ℕ) → List LineWord → Option (List ℕ)
node_behind current (first ∷ name ∷ words) = if bytes_eq first.text (codes "node") then name_of_text name.text else current
node_behind current words = current

-- a command of a node stands at this line
abbrev pub place_under : Option (List ℕ) → ℕ → List CommandPlace
place_under None number = []
place_under (Some node) number = (record { line = number; node = node }) ∷ []

-- what a line of these words adds
abbrev pub place_in : Option (List ℕ) → ℕ → List LineWord → List CommandPlace
place_in current number words = if is_command words then place_under current number else []

-- line for line, from this number on
abbrev pub places_from : Option (List ℕ) → ℕ → List (List ℕ) → List CommandPlace
places_from current number [] = []
places_from current number (line ∷ rest) = place_in current number (words_of_line line) ++ places_from (node_behind current (words_of_line line)) (number + 1) rest

-- those of a text; its lines are counted from 1
abbrev pub places_of : List ℕ → List CommandPlace
places_of text = places_from None 1 (lines text)

-- What is known of the script that reports are told by: its file is absent, its text is no script, or these are its commands, none where no script is asked for.
pub data CommandsFound : Type 0 where
  no_file : CommandsFound
  no_script : ScriptStop → CommandsFound
  found : Option (List CommandPlace) → CommandsFound

-- by what is read of a text
abbrev pub commands_read : List ℕ → Result Script ScriptStop → CommandsFound
commands_read text (Err stop) = no_script stop
commands_read text (Ok script) = found (Some (places_of text))

-- by what its file holds
abbrev pub commands_held : List ℕ → Option (List ℕ) → CommandsFound
commands_held file None = no_file
commands_held file (Some text) = commands_read text (script_read file text)

abbrev pub commands_found : Option (List ℕ) → Folder → CommandsFound
commands_found None held = found None
commands_found (Some file) held = commands_held file (held file)
