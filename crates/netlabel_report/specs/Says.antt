-- What the program says of what was asked for.
use Rattle.std.specs.Prelude.{◌≡◌, ◌⊎◌, ◌<◌, ℕ, ◌+◌, ◌==◌, ◌&&◌, not, Bool, IsTrue, List, [], ◌∷◌, ◌++◌, length, take, map, Option, Some, None, Err, if◌then◌else◌}
use Rattle.std.specs.List.{concat, range_with_len}
use Rattle.label_commands.specs.declared.stop.ScriptStop.{ScriptStop}
use Rattle.call_report.specs.script_input.ScriptFile.{script_read, script_stop_status}
use Rattle.call_report.specs.Lines.Script.{script_stop_line}
use Rattle.call_report.specs.Report.{Folder, Report}
use Rattle.call_report.specs.Says.{Says, usage_says}
use Rattle.call_report.specs.Stages.{Stage, reading_stage}
use Rattle.netlabel_report.specs.declared.report_telling.counts.Progress.{Progress}
use Rattle.netlabel_report.specs.declared.report_telling.way.Manner.{Manner}
use Rattle.netlabel_report.specs.declared.report_telling.way.Way.{Way}
use Rattle.netlabel_report.specs.declared.report_telling.way.Way.TheVariants.{Summary, Denied, Json, Csv}
use Rattle.netlabel_report.specs.report_telling.Counts.{start_progress}
use Rattle.netlabel_report.specs.report_telling.Csv.{heading}
use Rattle.netlabel_report.specs.report_telling.Summary.{summary_text}
use Rattle.netlabel_report.specs.report_telling.Taking.{Standing, no_report_text}
use Rattle.netlabel_report.specs.declared.question.ReportQuestion.{ReportQuestion}
use Rattle.netlabel_report.specs.Asked.{report_usage_line}
use Rattle.netlabel_report.specs.Course.{at_end, at_absent, at_script, at_fault, Course, ended, with_front, reports_course}
use Rattle.netlabel_report.specs.Places.{CommandsFound, no_file, no_script, found, commands_found}

-- nothing was read yet
abbrev pub start_standing : Standing
start_standing = record { progress = start_progress; tallies = [] }

-- what is printed in front of all reports: the names of the columns
abbrev pub opening_text : Way → List ℕ
opening_text Summary = []
opening_text Denied = []
opening_text Json = []
opening_text Csv = heading

-- and behind them: what was added up
abbrev pub closing_text : Way → Standing → List ℕ
closing_text Summary s = summary_text s.progress s.tallies
closing_text Denied s = []
closing_text Json s = []
closing_text Csv s = []

-- all reports that were named, in this manner
abbrev pub told_course : Manner → Folder → List (List ℕ) → Course
told_course manner held names = with_front (opening_text manner.way ∷ []) (reports_course manner held names start_standing)

-- by what is known of the script, which comes first: nothing is printed before it is known to be right
abbrev pub course_by : ReportQuestion → Folder → CommandsFound → Course
course_by asked held no_file = ended at_absent start_standing
course_by asked held (no_script stop) = ended (at_script stop) start_standing
course_by asked held (found commands) = told_course (record { way = asked.way; commands = commands }) held asked.names

-- all that was asked for
abbrev pub question_course : ReportQuestion → Folder → Course
question_course asked held = course_by asked held (commands_found asked.script held)

-- all that may stand in front of a next line: nothing, the first piece, the first two, and so on
abbrev pub starts_of_pieces : List (List ℕ) → List (List ℕ)
starts_of_pieces pieces = map (λ n. concat (take n pieces)) (range_with_len 0 (length pieces + 1))

-- a command was refused, a packet denied, or a report has no good end: it was stopped, or is unfinished
abbrev pub is_amiss : Progress → Bool
is_amiss p = not (p.refused == 0 && p.denied == 0 && p.stopped == 0 && p.unfinished == 0)

-- What is printed: the pieces of the course, and behind them what was added up, or the line that tells why a text is no script, or where one is no report.
abbrev pub course_report : Way → Course → Report
course_report way course = elim course.end [
  | at_end ↦ record { body = concat course.pieces ++ closing_text way course.standing; last = []; pauses = starts_of_pieces course.pieces }
  | at_absent ↦ record { body = concat course.pieces; last = []; pauses = starts_of_pieces course.pieces }
  | at_script stop ↦ record { body = concat course.pieces; last = script_stop_line stop; pauses = starts_of_pieces course.pieces }
  | at_fault octet ↦ record { body = concat course.pieces; last = no_report_text course.standing.progress octet; pauses = starts_of_pieces course.pieces }
]

-- the status that is due, none where a file is absent; 8 where it is to be told that something is amiss, and something is
abbrev pub course_status : Bool → Course → Option ℕ
course_status tells course = elim course.end [
  | at_end ↦ Some (if tells && is_amiss course.standing.progress then 8 else 0)
  | at_absent ↦ None
  | at_script stop ↦ Some (script_stop_status stop)
  | at_fault octet ↦ Some 2
]

-- A status that some reports may bring.
abbrev pub IsReportStatus : Bool → ℕ → Type 0
IsReportStatus tells status = (status ≡ 0) ⊎ (status ≡ 2) ⊎ (IsTrue tells) × (status ≡ 8)

-- and one that some script may
abbrev pub IsScriptStatus : Option (List ℕ) → ℕ → Type 0
IsScriptStatus None status = ⊥
IsScriptStatus (Some file) status = (text : List ℕ) × (stop : ScriptStop) × (script_read file text ≡ Err stop) × (status ≡ script_stop_status stop)

-- the files that are read: the script, where one is named, and the reports
abbrev pub files_of : Option (List ℕ) → List (List ℕ) → List (List ℕ)
files_of None names = names
files_of (Some file) names = file ∷ names

-- those that were begun: so many of the first ones
abbrev pub AreFirstFiles : List (List ℕ) → List Stage → Type 0
AreFirstFiles files stages = (count : ℕ) × (stages ≡ map reading_stage (take count files))

-- Words that are no form have the usage line. It prints while it reads reports, and nothing before the script, if one is named, was read; it makes nothing, and prints no versions of its own.
abbrev pub report_says : Option ReportQuestion → Says
report_says None = usage_says report_usage_line
report_says (Some asked) = record {
  report = λ held seen report. report ≡ course_report asked.way (question_course asked held);
  reads = Unit {0};
  status = λ held status. course_status asked.tells (question_course asked held) ≡ Some status;
  possible = λ status. IsReportStatus asked.tells status ⊎ IsScriptStatus asked.script status;
  stages = λ held seen stages. (seen ≡ []) × AreFirstFiles (files_of asked.script asked.names) stages;
  outputs = λ held seen outputs. outputs ≡ [];
  lawful = λ held seen. seen ≡ [];
  whole = λ held seen. seen ≡ [];
  access = λ held seen. Unit {0};
  withheld = λ held seen. Unit {0};
  preceded = λ seen stages call. length (files_of asked.script []) < length stages;
}
