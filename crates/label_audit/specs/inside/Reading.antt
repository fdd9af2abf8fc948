-- What a part of the reading of a report finds, and what it leaves.
use Rattle.std.specs.Prelude.{◌≡◌, ◌+◌, ◌≤◌, ℕ, Bool, true, false, List, ◌∷◌, ◌++◌, length, drop, Result}
use Rattle.net_io.specs.declared.fault.IoFault.{IoFault}
use Rattle.net_io.specs.declared.fault.IoFault.TheVariants.{Failed}
use Rattle.net_io.specs.Depot.{DepotState, octets_of}
use Rattle.call_report.specs.report_file.File.{ReportPart, KeepsPart}
use Rattle.call_report.specs.report_file.Meeting.{lines_in, DiffersBehind}
use Rattle.label_audit.specs.declared.place.Place.{Place}
use Rattle.label_audit.specs.Reads.{OnlyReadsAmong}
use Rattle.label_audit.specs.inside.Awaited.{Awaited, BadBehind, ComesTo}

-- the octets of a report
abbrev pub file_of : DepotState → ReportPart → List ℕ
file_of folder report = octets_of (folder.held report.name)

-- only the report was read, and files of these names
pub record HasRead {T : Type 0} (names : List (List ℕ)) (result : Result T IoFault) (old new : ReportPart) (before after : DepotState) : Type 0 where
  pub keeps : KeepsPart after new
  pub name : new.name ≡ old.name
  pub only : OnlyReadsAmong Failed result (old.name ∷ names) before after

-- in front of a report's first octet
abbrev pub front_place : Place
front_place = record { at = 0; lines = 0 }

-- a place in a file that is no longer than a report may be: no more lines than octets stand in front of it
abbrev pub StandsIn : List ℕ → Place → Type 0
StandsIn file place = (place.lines ≤ place.at) × (place.at ≤ length file) × (length file ≤ 268435456)

-- a text stands at a place, and the next place is behind it; or it differs, and the number of the line that does is told
abbrev pub IsExpected : List ℕ → List ℕ → Place → Place → Bool → Type 0
IsExpected file text old new true = (drop old.at file ≡ text ++ drop new.at file) × (new.lines ≡ old.lines + lines_in text) × StandsIn file new
IsExpected file text old new false = (lines : ℕ) × DiffersBehind lines (drop old.at file) text × (new.lines ≡ old.lines + lines + 1)

-- what is awaited at a place stands there, and this is awaited at the next one; or the number of the first bad line is told
abbrev pub IsJudgedTo : Awaited → Awaited → List ℕ → Place → Place → Bool → Type 0
IsJudgedTo may may' file old new true = ComesTo may (drop old.at file) old.lines may' (drop new.at file) new.lines × StandsIn file new
IsJudgedTo may may' file old new false = BadBehind may (drop old.at file) old.lines new.lines
