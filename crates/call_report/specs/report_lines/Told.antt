-- What a line tells under the name of a field.
use Rattle.std.specs.Prelude.{ℕ, ◌≡◌, Bool, false, ◌||◌, ◌==◌, List, [], ◌∷◌, ◌++◌, Ok, if◌then◌else◌}
use Rattle.std.specs.List.{All, before_first, after_first}
use Rattle.mls_range.specs.LabelText.{dot}
use Rattle.call_report.specs.declared.report_lines.form.Form.{Form}
use Rattle.call_report.specs.declared.report_lines.slot.Field.{Field}
use Rattle.call_report.specs.declared.report_lines.slot.Field.TheVariants as name
use Rattle.call_report.specs.declared.report_lines.slot.Slot.{Slot}
use Rattle.call_report.specs.declared.report_lines.slot.Slot.TheVariants as slot
use Rattle.call_report.specs.report_lines.Slot.{field_number}
use Rattle.call_report.specs.report_lines.Form.{slots_of}
use Rattle.call_report.specs.report_lines.Line.{line_words, line_form}

-- two fields are one
abbrev pub is_field : Field → Field → Bool
is_field a b = field_number a == field_number b

-- a slot's word tells something under a field
abbrev pub tells : Slot → Field → Bool
tells (slot.Fixed text) field = false
tells (slot.Tag own text) field = is_field own field
tells (slot.Number own) field = is_field own field
tells (slot.Zero own) field = is_field own field
tells (slot.Text own kind) field = is_field own field
tells slot.Place field = is_field name.Flow field || is_field name.Number field
tells slot.Versions field = is_field name.Versions field
tells slot.NoVersions field = is_field name.Versions field

-- the part of the word that does
abbrev pub part_of : Slot → Field → List ℕ → List ℕ
part_of slot.Place field word = if is_field name.Flow field then before_first (λ c. c == dot) word else after_first (λ c. c == dot) word
part_of slot field word = word

-- what words in slots tell under a field, by the first that does; nothing where none does
abbrev pub told_word : Field → List Slot → List (List ℕ) → List ℕ
told_word field (slot ∷ slots) (word ∷ words) = if tells slot field then part_of slot field word else told_word field slots words
told_word field slots words = []

-- a text is a line that is read as of a form, with its end, and tells under each of some fields the text beside it
pub record IsToldAs (form : Form) (fields : List (Field × List ℕ)) (text : List ℕ) : Type 0 where
  pub line : List ℕ
  pub is : text ≡ line ++ 10 ∷ []
  pub read : line_form line ≡ Ok form
  pub told : All (λ field. told_word field.0 (slots_of form) (line_words line) ≡ field.1) fields
