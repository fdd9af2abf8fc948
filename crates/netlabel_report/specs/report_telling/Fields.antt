-- What a line tells.
use Rattle.std.specs.Prelude.{ℕ, List, unwrap_or}
use Rattle.call_report.specs.declared.report_lines.form.Form.{Form}
use Rattle.call_report.specs.declared.report_lines.slot.Field.{Field}
use Rattle.call_report.specs.report_lines.Slot.{whole_number}
use Rattle.call_report.specs.report_lines.Form.{slots_of}
use Rattle.call_report.specs.report_lines.Line.{line_words}
use Rattle.call_report.specs.report_lines.Told.{told_word}

-- what a line tells under a field
abbrev pub told_in : Field → Form → List ℕ → List ℕ
told_in field form line = told_word field (slots_of form) (line_words line)

-- and its number
abbrev pub number_told : Field → Form → List ℕ → ℕ
number_told field form line = unwrap_or (whole_number (told_in field form line)) 0
