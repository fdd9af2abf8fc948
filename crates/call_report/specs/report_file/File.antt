-- What is seen of a report's file that is read in pieces.
use Rattle.std.specs.Prelude.{ℕ, IsTrue, List}
use Rattle.net_io.specs.Depot.{DepotState, octets_of}
use Rattle.net_io.specs.file_window.Window.{IsFrom}

-- its name, the octet at which its window stands, and the octets from there on that are kept
pub record ReportPart : Type 0 where
  pub name : List ℕ
  pub place : ℕ
  pub ahead : List ℕ

-- where the folder tells its content, the octets that are kept stand there
abbrev pub KeepsPart : DepotState → ReportPart → Type 0
KeepsPart folder report = IsTrue folder.tells → IsFrom (octets_of (folder.held report.name)) report.place report.ahead
