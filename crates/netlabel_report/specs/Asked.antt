-- What the words of the command line, without the program's name, ask for.
use Rattle.std.specs.Prelude.{ℕ, Bool, true, false, List, [], ◌∷◌, codes, Option, Some, None, option_and_then, if◌then◌else◌}
use Rattle.std.specs.List.{list_all}
use Rattle.std.specs.Str.{bytes_eq}
use Rattle.label_commands.specs.flow_lines.FileName.{is_file_name, file_name_of_text}
use Rattle.call_report.specs.Lines.Parts.{line_of}
use Rattle.netlabel_report.specs.declared.report_telling.way.Way.{Way}
use Rattle.netlabel_report.specs.declared.report_telling.way.Way.TheVariants.{Summary, Denied, Json, Csv}
use Rattle.netlabel_report.specs.Names.{reports_named}
use Rattle.netlabel_report.specs.declared.question.ReportQuestion.{ReportQuestion}

-- how reports are to be told
abbrev pub way_of_word : List ℕ → Option Way
way_of_word word =
    if bytes_eq word (codes "summary") then Some Summary
    else if bytes_eq word (codes "denied") then Some Denied
    else if bytes_eq word (codes "json") then Some Json
    else if bytes_eq word (codes "csv") then Some Csv
    else None

-- the way, and names of files
abbrev pub question_by : Bool → Option (List ℕ) → List (List ℕ) → Option ReportQuestion
question_by tells script [] = None
question_by tells script (word ∷ names) =
    option_and_then (λ way. if list_all is_file_name names then Some (record { tells = tells; script = script; way = way; names = reports_named names }) else None) (way_of_word word)

-- behind `-s` the name of a script stands in front of these
abbrev pub question_scripted : Bool → List (List ℕ) → Option ReportQuestion
question_scripted tells [] = None
question_scripted tells (script ∷ words) = option_and_then (λ file. question_by tells (Some file) words) (file_name_of_text script)

abbrev pub question_behind : Bool → List (List ℕ) → Option ReportQuestion
question_behind tells [] = None
question_behind tells (first ∷ words) = if bytes_eq first (codes "-s") then question_scripted tells words else question_by tells None (first ∷ words)

-- `summary`, `denied`, `json` or `csv`, and behind it names of reports; `-e` in front of all, and `-s` with a script in front of the way; none where the words are no form
abbrev pub question_asked : List (List ℕ) → Option ReportQuestion
question_asked [] = None
question_asked (first ∷ words) = if bytes_eq first (codes "-e") then question_behind true words else question_behind false (first ∷ words)

-- the forms of the command line
unfoldable pub report_usage_line : List ℕ
report_usage_line = line_of (codes "usage: netlabel_report [-e] [-s <script>] summary|denied|json|csv [<report>..]")
