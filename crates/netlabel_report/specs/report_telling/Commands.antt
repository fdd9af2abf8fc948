-- The commands of a script, and the lines of a report that answer them.
use Rattle.std.specs.Prelude.{ℕ, zero, suc, ◌+◌, Bool, true, false, List, length, Option, Some, None, option_map, if◌then◌else◌}
use Rattle.std.specs.List.{slice_get}
use Rattle.std.specs.Str.{bytes_eq}
use Rattle.call_report.specs.declared.report_lines.form.Form.{Form}
use Rattle.call_report.specs.declared.report_lines.form.Form.TheVariants as form
use Rattle.call_report.specs.declared.report_lines.slot.Field.TheVariants as name
use Rattle.netlabel_report.specs.declared.report_telling.commands.CommandPlace.{CommandPlace}
use Rattle.netlabel_report.specs.report_telling.Fields.{told_in, number_told}

-- a line of the form answers a command
abbrev pub is_answer : Form → Bool
is_answer form.Done = true
is_answer form.Refused = true
is_answer form.Listed = true
is_answer form = false

-- the command of this number, counted from 1
abbrev pub command_numbered : List CommandPlace → ℕ → Option CommandPlace
command_numbered places zero = None
command_numbered places (suc place) = slice_get places place

-- the command that a line answers
abbrev pub command_answered : List CommandPlace → Form → List ℕ → Option CommandPlace
command_answered places form line = if is_answer form then command_numbered places (number_told name.Step form line) else None

-- its line in the script; none where the line answers no command, or where there is no script
abbrev pub answered_at : Option (List CommandPlace) → Form → List ℕ → Option ℕ
answered_at None form line = None
answered_at (Some places) form line = option_map (λ place. place.line) (command_answered places form line)

-- the octet at which a line isn't this command's: that of its number, where there is no such command, or of another node
abbrev pub stranger_by : Option CommandPlace → List ℕ → List ℕ → Option ℕ
stranger_by None step node = Some 8
stranger_by (Some place) step node = if bytes_eq place.node node then None else Some (length step + 9)

-- the octet at which a line answers a command that isn't the script's, none where it doesn't, or where there is no script
abbrev pub stranger_at : Option (List CommandPlace) → Form → List ℕ → Option ℕ
stranger_at None form line = None
stranger_at (Some places) form line =
    if is_answer form then stranger_by (command_numbered places (number_told name.Step form line)) (told_in name.Step form line) (told_in name.Node form line) else None
