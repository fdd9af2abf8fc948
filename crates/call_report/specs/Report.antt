-- What a call prints. It is said under the versions that the call itself has printed, so a flow that was cut short has the report of what it came to.
use Rattle.std.specs.Prelude.{ℕ, List, [], ◌∷◌, ◌++◌, Option}

-- what each name of the folder holds
abbrev pub Folder : Type 0
Folder = List ℕ → Option (List ℕ)

-- for each flow, for each of its packets, the versions of the tables that its hops were judged under
abbrev pub Versions : Type 0
Versions = List (List (List ℕ))

-- What is printed before the event that decides how the call ends, and the line of that event, if it has one; and all that may stand there where a read of an input fails, the making of an output, or an append to it.
pub record Report : Type 0 where
  pub body : List ℕ
  pub last : List ℕ
  pub pauses : List (List ℕ)

-- the whole report
abbrev pub report_text : Report → List ℕ
report_text report = report.body ++ report.last

-- the report of a call that prints nothing before its input is read to its end
abbrev pub late_report : List ℕ → List ℕ → Report
late_report body last = record { body = body; last = last; pauses = [] ∷ [] }
