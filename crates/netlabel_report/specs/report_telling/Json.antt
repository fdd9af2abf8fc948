-- Lines as records of JSON (RFC 8259): numbers as they stand, texts as strings, versions as a list.
use Rattle.std.specs.Prelude.{ℕ, ◌==◌, List, [], ◌∷◌, ◌++◌, codes, Option, Some, None}
use Rattle.std.specs.Fmt.{decimal}
use Rattle.std.specs.List.{before_first, after_first}
use Rattle.mls_range.specs.LabelText.{dot}
use Rattle.call_report.specs.declared.report_lines.form.Form.{Form}
use Rattle.call_report.specs.declared.report_lines.slot.Field.{Field}
use Rattle.call_report.specs.declared.report_lines.slot.Field.TheVariants as name
use Rattle.call_report.specs.declared.report_lines.slot.Slot.{Slot}
use Rattle.call_report.specs.declared.report_lines.slot.Slot.TheVariants as slot
use Rattle.call_report.specs.report_lines.Slot.{field_name}
use Rattle.call_report.specs.report_lines.Form.{slots_of, form_name}
use Rattle.call_report.specs.report_lines.Line.{line_words}
use Rattle.netlabel_report.specs.report_telling.Quoted.{quoted}

-- a text of printable ASCII as a string
abbrev pub string_text : List ℕ → List ℕ
string_text text = quoted 92 text

-- a member's name
abbrev pub member_name : Field → List ℕ
member_name field = codes ",\"" ++ field_name field ++ codes "\":"

-- versions as a list
abbrev pub versions_list : List ℕ → List ℕ
versions_list word = 91 ∷ word ++ 93 ∷ []

-- what a word in a slot says
abbrev pub member_text : Slot → List ℕ → List ℕ
member_text (slot.Fixed text) word = []
member_text (slot.Tag field text) word = member_name field ++ string_text word
member_text (slot.Number field) word = member_name field ++ word
member_text (slot.Zero field) word = member_name field ++ word
member_text (slot.Text field kind) word = member_name field ++ string_text word
member_text slot.Place word = (member_name name.Flow ++ before_first (λ c. c == dot) word) ++ (member_name name.Number ++ after_first (λ c. c == dot) word)
member_text slot.Versions word = member_name name.Versions ++ versions_list word
member_text slot.NoVersions word = member_name name.Versions ++ versions_list []

-- what the words of a line say
abbrev pub members_text : List Slot → List (List ℕ) → List ℕ
members_text (slot ∷ slots) (word ∷ words) = member_text slot word ++ members_text slots words
members_text slots words = []

-- how a record begins: the report's number, and what it tells of
abbrev pub record_begin : ℕ → List ℕ → List ℕ
record_begin report name = codes "{\"report\":" ++ decimal report ++ codes ",\"line\":\"" ++ name ++ codes "\""

-- the line in the script at which a line's command stands
abbrev pub script_member : Option ℕ → List ℕ
script_member None = []
script_member (Some at) = member_name name.Line ++ decimal at

-- a line of the report of this number
unfoldable pub json_text : Option ℕ → ℕ → Form → List ℕ → List ℕ
json_text at report form line = record_begin report (form_name form) ++ members_text (slots_of form) (line_words line) ++ script_member at ++ codes "}\n"

-- a line of a listing
unfoldable pub listed_json : ℕ → List ℕ → List ℕ
listed_json report line = record_begin report (codes "listed") ++ codes ",\"text\":" ++ string_text line ++ codes "}\n"

-- a report that ends early
unfoldable pub unfinished_json : ℕ → List ℕ
unfinished_json report = record_begin report (codes "unfinished") ++ codes "}\n"
