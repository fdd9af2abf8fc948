-- What a line says: its words, one by one, against the table of forms.
use Rattle.std.specs.Prelude.{ℕ, ◌+◌, ◌==◌, Bool, true, false, not, ◌&&◌, ◌||◌, nat_eq, max, List, [], ◌∷◌, length, map, fold, take, drop, find, codes, Option, ok_or, Result, Ok, Err, if◌then◌else◌}
use Rattle.std.specs.List.{after_first, common_prefix_len, list_all, list_any, position_or_len}
use Rattle.std.specs.Str.{bytes_eq}
use Rattle.script_lines.specs.declared.stop.ScriptKind.TheVariants.{Word, Value, Extra, Missing}
use Rattle.script_lines.specs.declared.stop.LineStop.{LineStop}
use Rattle.script_lines.specs.Word.{LineWord}
use Rattle.script_lines.specs.Stop.{fault, and_next}
use Rattle.script_lines.specs.declared.row.Row.{Row}
use Rattle.script_lines.specs.declared.parameter.Parameter.{Parameter}
use Rattle.script_lines.specs.declared.form.Slot.{Slot}
use Rattle.script_lines.specs.declared.fields.Fields.{Fields}
use Rattle.script_lines.specs.declared.said.Said.{Said}
use Rattle.script_lines.specs.Form.{Edition, form_of, line_rows, is_key}
use Rattle.script_lines.specs.Fields.{no_fields, is_given, with_value}

-- the fixed words

-- a text spells a fixed word; `cipso` is another name of the module `cipsov4`
abbrev pub is_spelled : List ℕ → List ℕ → Bool
is_spelled word text = bytes_eq text word || (bytes_eq word (codes "cipsov4") && bytes_eq text (codes "cipso"))

-- the first of the fixed words is spelled so
abbrev pub first_is : List (List ℕ) → List ℕ → Bool
first_is [] text = false
first_is (word ∷ fixed) text = is_spelled word text

-- the text begins a command or a reading line
abbrev pub begins_line : Edition → List ℕ → Bool
begins_line edition text = list_any (λ row. first_is (form_of edition row).fixed text) (line_rows false edition)

-- how many of the row's fixed words stand first among the words, up to the first that differs
abbrev pub shared_words : Edition → List LineWord → Row → ℕ
shared_words edition words row = common_prefix_len is_spelled (form_of edition row).fixed (map (λ word. word.text) words)

-- all of them do
abbrev pub fits_row : Edition → List LineWord → Row → Bool
fits_row edition words row = nat_eq (shared_words edition words row) (length (form_of edition row).fixed)

-- all fixed words of one row stand first among those of the other
abbrev pub begins_row : Edition → Row → Row → Bool
begins_row edition row other =
    nat_eq (common_prefix_len is_spelled (form_of edition row).fixed (form_of edition other).fixed) (length (form_of edition row).fixed)

-- of no two rows the fixed words of one begin those of the other
abbrev pub are_apart : Edition → List Row → Bool
are_apart edition [] = true
are_apart edition (row ∷ rows) = list_all (λ other. not (begins_row edition row other || begins_row edition other row)) rows && are_apart edition rows

-- at the first of these words, or else at the line's end
abbrev pub unfit_or_missing : ℕ → List LineWord → LineStop
unfit_or_missing end [] = fault end Missing
unfit_or_missing end (word ∷ words) = fault word.at Word

-- Where no row fits, the first word is unfit that no row goes on with; where some row goes on with all words, more of them are missing.
abbrev pub read_row : Edition → List Row → ℕ → List LineWord → Result Row LineStop
read_row edition rows end words = ok_or (find (fits_row edition words) rows) (unfit_or_missing end (drop (fold max 0 (map (shared_words edition words) rows)) words))

-- the parameters

-- a word up to and with its first colon
abbrev pub key_of : List ℕ → List ℕ
key_of text = take (position_or_len (λ c. c == 58) text + 1) text

-- the parameter that a word begins
abbrev pub slot_of : List Slot → List ℕ → Option Slot
slot_of slots key = find (λ slot. is_key slot.parameter key) slots

-- a word of a parameter, which may come once
abbrev pub with_parameter : Edition → Parameter → LineWord → Fields → Result Fields LineStop
with_parameter edition parameter word fields =
    if is_given parameter fields then Err (fault word.at Word)
    else ok_or (with_value edition parameter (key_of word.text) (after_first (λ c. c == 58) word.text) fields) (fault word.at Value)

-- a word behind the fixed ones
abbrev pub with_word : Edition → List Slot → LineWord → Fields → Result Fields LineStop
with_word edition slots word fields =
    if nat_eq (length slots) 0 then Err (fault word.at Extra)
    else and_next (ok_or (slot_of slots (key_of word.text)) (fault word.at Word)) (λ slot. with_parameter edition slot.parameter word fields)

-- the parameters with those of these words
abbrev pub with_words : Edition → List Slot → List LineWord → Fields → Result Fields LineStop
with_words edition slots [] fields = Ok fields
with_words edition slots (word ∷ words) fields = and_next (with_word edition slots word fields) (with_words edition slots words)

-- each parameter that must be there is
abbrev pub is_complete : List Slot → Fields → Bool
is_complete slots fields = list_all (λ slot. not slot.must || is_given slot.parameter fields) slots

-- the parameters in whatever order they come; at the line's end none may be missing
abbrev pub read_fields : Edition → List Slot → ℕ → List LineWord → Result Fields LineStop
read_fields edition slots end words =
    and_next (with_words edition slots words no_fields) (λ fields. if is_complete slots fields then Ok fields else Err (fault end Missing))

-- The row and the parameters of a line's words. The line's length is the place of what is missing.
abbrev pub read_said : Edition → List Row → ℕ → List LineWord → Result Said LineStop
read_said edition rows end words = and_next (read_row edition rows end words) (λ row.
    let form = form_of edition row in
    and_next (read_fields edition form.slots end (drop (length form.fixed) words)) (λ fields. Ok (record { row = row; fields = fields })))
