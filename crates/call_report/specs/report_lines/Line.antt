-- A line of a report by its words.
use Rattle.std.specs.Prelude.{ℕ, ◌≡◌, ◌+◌, ◌-◌, ◌==◌, nat_lt, false, List, [], ◌∷◌, length, Option, Some, None, Result, Ok, Err, if◌then◌else◌}
use Rattle.std.specs.List.{All, slice_split}
use Rattle.call_report.specs.declared.report_lines.form.Form.{Form}
use Rattle.call_report.specs.declared.report_lines.slot.Slot.{Slot}
use Rattle.call_report.specs.report_lines.Slot.{may_stand}
use Rattle.call_report.specs.report_lines.Form.{forms, slots_of}

-- the words of a line, between blanks
abbrev pub line_words : List ℕ → List (List ℕ)
line_words line = slice_split (λ c. c == 32) line

-- The octet at which words stop fitting slots, None where all fit: the first one of a word that doesn't fit, or that is one too many, or where the line ends too early. The first word begins at `at`.
abbrev pub misfit_of : ℕ → List ℕ → List Slot → List (List ℕ) → Option ℕ
misfit_of at before [] [] = None
misfit_of at before [] (word ∷ words) = Some at
misfit_of at before (slot ∷ slots) [] = Some (at - 1)
misfit_of at before (slot ∷ slots) (word ∷ words) = if may_stand slot before word then misfit_of (at + length word + 1) word slots words else Some at

-- the greater one
abbrev pub further : ℕ → ℕ → ℕ
further a b = if nat_lt a b then b else a

-- the first of these forms that all words fit, else the furthest octet at which one of them stops
abbrev pub first_form : ℕ → List Form → List ℕ → Result Form ℕ
first_form furthest [] line = Err furthest
first_form furthest (form ∷ rest) line = elim (misfit_of 0 [] (slots_of form) (line_words line)) [
  | None ↦ Ok form
  | Some octet ↦ first_form (further furthest octet) rest line
]

-- the form of a line, or the octet at fault
unfoldable pub line_form : List ℕ → Result Form ℕ
line_form line = first_form 0 forms line

-- texts without a blank
abbrev pub AreWords : List (List ℕ) → Type 0
AreWords [] = Unit {0}
AreWords (word ∷ words) = All (λ c. (c == 32) ≡ false) word × AreWords words
