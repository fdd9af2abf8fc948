-- How far the telling of reports has come, in words that private clauses share.
use Rattle.std.specs.Prelude.{◌≡◌, ℕ, ◌+◌, ◌<◌, ◌≤◌, ◌==◌, nat_lt, ◌&&◌, Bool, false, IsTrue, List, [], ◌∷◌, ◌++◌, length, Option, Some, None, Result, Ok, Err, if◌then◌else◌}
use Rattle.std.specs.List.{All, concat}
use Rattle.std.specs.Result.{IsErrOf}
use Rattle.net_io.specs.declared.fault.IoFault.{IoFault}
use Rattle.net_io.specs.declared.fault.IoFault.TheVariants as io
use Rattle.net_io.specs.Depot.{DepotState}
use Rattle.net_io.specs.Faults.{Rose, SameCounts}
use Rattle.net_io.specs.Sink.{SinkState}
use Rattle.call_report.specs.declared.status.Status.{Status}
use Rattle.call_report.specs.declared.status.Status.TheVariants.{Done, WrongScript, ReadFault as ReadFaultStatus}
use Rattle.call_report.specs.Outside.{Outside, IsOnlyRead}
use Rattle.call_report.specs.Printing.{HandsOn, Printed}
use Rattle.call_report.specs.Status.{status_number, write_status}
use Rattle.netlabel_report.specs.declared.report_telling.way.Manner.{Manner}
use Rattle.netlabel_report.specs.declared.report_telling.taking.LineKind.{LineKind}
use Rattle.netlabel_report.specs.declared.report_telling.commands.CommandPlace.{CommandPlace}
use Rattle.netlabel_report.specs.report_telling.Counts.{risen}
use Rattle.netlabel_report.specs.report_telling.Taking.{Standing, line_kind, line_text, after_line, unfinished_text, no_report_text}
use Rattle.netlabel_report.specs.declared.lines.NextLine.{NextLine}
use Rattle.netlabel_report.specs.declared.lines.NextLine.TheVariants.{Line, End, Broken}
use Rattle.netlabel_report.specs.declared.desk.TellStop.{TellStop}
use Rattle.netlabel_report.specs.declared.desk.TellStop.TheVariants.{NoReport, ReadFault, Unwritten, OutOfMemory}
use Rattle.netlabel_report.specs.declared.question.ReportQuestion.{ReportQuestion}
use Rattle.netlabel_report.specs.Says.{closing_text, is_amiss}
use Rattle.netlabel_report.specs.Places.{found, commands_found}
use Rattle.netlabel_report.specs.Course.{Course, at_end, at_fault, most_line, parts_of, ended, with_front, kind_course, lines_course, closed}

-- Octets were moved from a window at a place to a line: up to the line's end, which was passed, or all.
pub record IsGathered (ended : Bool) (at at' : ℕ) (window window' line line' : List ℕ) : Type 0 where
  pub taken : List ℕ
  pub none : All (λ c. (c == 10) ≡ false) taken
  pub moved : line' ≡ line ++ taken
  pub all : IsTrue ended → (window ≡ taken ++ 10 ∷ window') × (at' ≡ at + length taken + 1)
  pub part : ended ≡ false → (window ≡ taken) × (window' ≡ []) × (at' ≡ at + length taken)

-- what a text begins with: a line in front of the rest, nothing, or no line from an octet on
abbrev pub IsNextLine : NextLine → List ℕ → List ℕ → List ℕ → Type 0
IsNextLine Line text line rest = (manner : Manner) (s : Standing) → lines_course manner (parts_of text) s ≡ kind_course manner line s (lines_course manner (parts_of rest))
IsNextLine End text line rest = (manner : Manner) (s : Standing) → lines_course manner (parts_of text) s ≡ ended at_end s
IsNextLine (Broken octet) text line rest = (manner : Manner) (s : Standing) → lines_course manner (parts_of text) s ≡ ended (at_fault octet) s

-- what stands behind the last end of a line
abbrev pub last_part : List ℕ → NextLine
last_part [] = End
last_part (octet ∷ octets) = Broken (length (octet ∷ octets))

-- what stands in front of a place, by whether a line ended there, and by its octets so far
abbrev pub part_read : Bool → ℕ → Option NextLine
part_read ended count = if nat_lt most_line count then Some (Broken most_line) else if ended then Some Line else None

-- a line goes on behind these octets, or it is known what the text begins with
abbrev pub IsReadOn : Option NextLine → List ℕ → List ℕ → List ℕ → Type 0
IsReadOn None text line rest = text ≡ line ++ rest
IsReadOn (Some next) text line rest = IsNextLine next text line rest

-- the place is behind where it was, but at the text's end; and a line that goes on has more octets, none of which ends it
abbrev pub MovesOn : Option NextLine → ℕ → ℕ → List ℕ → List ℕ → Type 0
MovesOn None at at' line line' = (at < at') × (length line < length line') × (length line' ≤ most_line) × All (λ c. (c == 10) ≡ false) line'
MovesOn (Some Line) at at' line line' = at < at'
MovesOn (Some next) at at' line line' = Unit {0}

-- why a read gave nothing
abbrev pub read_stop : IoFault → TellStop
read_stop io.Failed = ReadFault
read_stop io.OutOfMemory = OutOfMemory

-- A line was taken: what was told of it was handed on behind what waits, and it was counted; or it is no line, and nothing has changed.
abbrev pub IsTaken : {T : Type 0} → Manner → List ℕ → Standing → Standing → List ℕ → List ℕ → Result T TellStop → SinkState → SinkState → Type 0
IsTaken {T} manner line s s' waits waits' (Ok x) old new = (kind : LineKind) × (line_kind manner.commands s.progress line ≡ Ok kind) × (s' ≡ after_line kind line s)
    × HandsOn {T = T} (line_text manner (risen s.progress.reports) kind line) waits waits' (Ok x) old new
IsTaken {T} manner line s s' waits waits' (Err (NoReport octet)) old new = (line_kind manner.commands s.progress line ≡ Err octet) × (s' ≡ s) × (waits' ≡ waits) × (new ≡ old)
IsTaken {T} manner line s s' waits waits' (Err ReadFault) old new = ⊥
IsTaken {T} manner line s s' waits waits' (Err (Unwritten fault)) old new = (kind : LineKind) × (line_kind manner.commands s.progress line ≡ Ok kind)
    × HandsOn {T = T} (line_text manner (risen s.progress.reports) kind line) waits waits' (Err fault) old new
IsTaken {T} manner line s s' waits waits' (Err OutOfMemory) old new = new ≡ old

-- the same of a report's end
abbrev pub IsEndTaken : {T : Type 0} → Manner → Standing → Standing → List ℕ → List ℕ → Result T TellStop → SinkState → SinkState → Type 0
IsEndTaken {T} manner s s' waits waits' (Ok x) old new = (s' ≡ closed s) × HandsOn {T = T} (unfinished_text manner.way (risen s.progress.reports) s.progress.finished) waits waits' (Ok x) old new
IsEndTaken {T} manner s s' waits waits' (Err (NoReport octet)) old new = ⊥
IsEndTaken {T} manner s s' waits waits' (Err ReadFault) old new = ⊥
IsEndTaken {T} manner s s' waits waits' (Err (Unwritten fault)) old new = HandsOn {T = T} (unfinished_text manner.way (risen s.progress.reports) s.progress.finished) waits waits' (Err fault) old new
IsEndTaken {T} manner s s' waits waits' (Err OutOfMemory) old new = new ≡ old

-- what waits was handed on, or stays as it is
abbrev pub IsPassed : {T : Type 0} → List ℕ → List ℕ → Result T TellStop → SinkState → SinkState → Type 0
IsPassed {T} waits waits' (Ok x) old new = HandsOn {T = T} [] waits waits' (Ok x) old new
IsPassed {T} waits waits' (Err (Unwritten fault)) old new = HandsOn {T = T} [] waits waits' (Err fault) old new
IsPassed {T} waits waits' (Err stop) old new = ⊥

-- what a stop means for what was handed on
abbrev pub handed : Result (Unit {0}) TellStop → Result (Unit {0}) IoFault
handed (Ok x) = Ok x
handed (Err (Unwritten fault)) = Err fault
handed (Err stop) = Ok tt

-- how a course ends where it was told so
abbrev pub IsRest : {T : Type 0} → Result T TellStop → Standing → Course → Type 0
IsRest (Ok x) s rest = rest ≡ ended at_end s
IsRest (Err (NoReport octet)) s rest = rest ≡ ended (at_fault octet) s
IsRest (Err stop) s rest = Unit {0}

-- A course was told up to an answer: the pieces were handed on behind what waits, but for what waits now, and this is what is left of the course.
pub record Tells (tells : Bool) (course : Course) (s : Standing) (waits waits' : List ℕ) (result : Result (Unit {0}) TellStop) (old new : SinkState) : Type 0 where
  pub pieces : List (List ℕ)
  pub rest : Course
  pub still : List ℕ
  pub is : IsTrue tells → course ≡ with_front pieces rest
  pub end : IsTrue tells → IsRest result s rest
  pub hands : HandsOn (concat pieces) waits still (handed result) old new
  pub kept : (IsErrOf result OutOfMemory → ⊥) → still ≡ waits'

-- a number of failed reads rose, of the name that comes behind these
pub record IsRiseIn (names : List (List ℕ)) (old new : List ℕ → ℕ) : Type 0 where
  pub front : List (List ℕ)
  pub name : List ℕ
  pub behind : List (List ℕ)
  pub are : names ≡ front ++ name ∷ behind
  pub rose : Rose (old name) (new name)

-- Reports of these names were read: nothing but numbers of failed reads has moved, and where a read has failed, that of one of them.
pub record AreRead {T : Type 0} (names : List (List ℕ)) (result : Result T TellStop) (old new : DepotState) : Type 0 where
  pub only : IsOnlyRead old new
  pub still : (IsErrOf result ReadFault → ⊥) → SameCounts old.reads new.reads
  pub cause : IsErrOf result ReadFault → IsRiseIn names old.reads new.reads

-- how the number of a call's status comes about
abbrev pub answer_number : Bool → Status → ℕ
answer_number tells Done = if tells then 8 else 0
answer_number tells status = status_number status

-- What a call has that has read its script, where one is named: these are its commands, and nothing was printed.
pub record HasCommands (script : Option (List ℕ)) (before after : Outside) (commands : Option (List CommandPlace)) : Type 0 where
  pub reads : IsOnlyRead before.folder after.folder
  pub counts : SameCounts before.folder.reads after.folder.reads
  pub stream : after.stream ≡ before.stream
  pub are : IsTrue before.folder.tells → commands_found script before.folder.held ≡ found commands

-- How an answer ends whose reports were told so.
abbrev pub IsAnswerEnd : {T : Type 0} → ReportQuestion → Result T TellStop → Standing → List ℕ → ℕ → SinkState → SinkState → Type 0
IsAnswerEnd asked (Ok x) s waits number old new = (status : Status) × (number ≡ answer_number (asked.tells && is_amiss s.progress) status) × Printed (waits ++ closing_text asked.way s) [] Done status old new
IsAnswerEnd asked (Err (NoReport octet)) s waits number old new = (status : Status) × (number ≡ status_number status) × Printed waits (no_report_text s.progress octet) WrongScript status old new
IsAnswerEnd asked (Err ReadFault) s waits number old new = (status : Status) × (number ≡ status_number status) × Printed waits [] ReadFaultStatus status old new
IsAnswerEnd asked (Err (Unwritten fault)) s waits number old new = (number ≡ status_number (write_status fault)) × (new ≡ old)
IsAnswerEnd asked (Err OutOfMemory) s waits number old new = (number ≡ 6) × (new ≡ old)
