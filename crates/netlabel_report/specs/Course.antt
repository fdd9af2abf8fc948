-- What reports come to, line by line: what is printed of each line, what was counted, and where they end.
use Rattle.std.specs.Prelude.{ℕ, nat_lt, List, [], ◌∷◌, ◌++◌, length, Option, Some, None, Ok, Err, ◌==◌, if◌then◌else◌}
use Rattle.std.specs.List.{slice_split}
use Rattle.label_commands.specs.declared.stop.ScriptStop.{ScriptStop}
use Rattle.netlabel_report.specs.declared.report_telling.way.Manner.{Manner}
use Rattle.netlabel_report.specs.report_telling.Counts.{risen}
use Rattle.netlabel_report.specs.report_telling.Taking.{Standing, line_kind, line_text, after_line, unfinished_text, after_end}

-- Reports were read to their ends; one of them is absent, or the script is; the script is none; or the line behind those that were taken is none, from this octet on.
pub data CourseEnd : Type 0 where
  at_end : CourseEnd
  at_absent : CourseEnd
  at_script : ScriptStop → CourseEnd
  at_fault : ℕ → CourseEnd

-- What is printed, piece by piece, what was counted then, and how the reading ends.
pub record Course : Type 0 where
  pub pieces : List (List ℕ)
  pub standing : Standing
  pub end : CourseEnd

-- the most octets of a line
abbrev pub most_line : ℕ
most_line = 1048576

-- what stands between the ends of lines: the last one stands behind the last end
abbrev pub parts_of : List ℕ → List (List ℕ)
parts_of octets = slice_split (λ c. c == 10) octets

-- nothing more is printed
abbrev pub ended : CourseEnd → Standing → Course
ended end s = record { pieces = []; standing = s; end = end }

-- these pieces come first
abbrev pub with_front : List (List ℕ) → Course → Course
with_front pieces course = record { pieces = pieces ++ course.pieces; standing = course.standing; end = course.end }

-- where the reports of a course were read to their ends, it goes on so
abbrev pub followed_by : Course → (Standing → Course) → Course
followed_by course next = elim course.end [
  | at_end ↦ with_front course.pieces (next course.standing)
  | at_absent ↦ course
  | at_script stop ↦ course
  | at_fault octet ↦ course
]

-- a line, by what it is behind those before it
abbrev pub kind_course : Manner → List ℕ → Standing → (Standing → Course) → Course
kind_course manner line s next = elim (line_kind manner.commands s.progress line) [
  | Err octet ↦ ended (at_fault octet) s
  | Ok kind ↦ with_front (line_text manner (risen s.progress.reports) kind line ∷ []) (next (after_line kind line s))
]

-- a longer line than may be is none from the octet that is too much
abbrev pub line_course : Manner → List ℕ → Standing → (Standing → Course) → Course
line_course manner line s next = if nat_lt most_line (length line) then ended (at_fault most_line) s else kind_course manner line s next

-- the text behind the last end of a line: nothing, or a line that lacks its end
abbrev pub last_course : List ℕ → Standing → Course
last_course [] s = ended at_end s
last_course (octet ∷ octets) s = ended (at_fault (if nat_lt most_line (length (octet ∷ octets)) then most_line else length (octet ∷ octets))) s

-- line for line
abbrev pub lines_course : Manner → List (List ℕ) → Standing → Course
lines_course manner [] s = ended at_end s
lines_course manner (last ∷ []) s = last_course last s
lines_course manner (line ∷ next ∷ lines) s = line_course manner line s (lines_course manner (next ∷ lines))

-- what was counted behind a report's end
abbrev pub closed : Standing → Standing
closed s = record { progress = after_end s.progress; tallies = s.tallies }

-- a report's end: where it ends early, that it is unfinished is told
abbrev pub end_course : Manner → Standing → Course
end_course manner s = record {
  pieces = unfinished_text manner.way (risen s.progress.reports) s.progress.finished ∷ [];
  standing = closed s;
  end = at_end;
}

-- one report, by what its file holds
abbrev pub report_course : Manner → Option (List ℕ) → Standing → Course
report_course manner None s = ended at_absent s
report_course manner (Some octets) s = followed_by (lines_course manner (parts_of octets) s) (end_course manner)

-- report for report
abbrev pub reports_course : Manner → (List ℕ → Option (List ℕ)) → List (List ℕ) → Standing → Course
reports_course manner held [] s = ended at_end s
reports_course manner held (name ∷ names) s = followed_by (report_course manner (held name) s) (reports_course manner held names)
