-- The numbers of statuses.
use Rattle.std.specs.Prelude.{ℕ, ◌≡◌}
use Rattle.netlabel_codec.specs.declared.status.Status.{Status}
use Rattle.netlabel_codec.specs.declared.status.Status.TheVariants.{Done, BadHeader, BadOption, NoRoom, BadRuns, BadDoi, BadTag, Inexpressible}

-- the number by which C knows a status
abbrev pub code_of : Status → ℕ
code_of Done = 0
code_of BadHeader = 1
code_of BadOption = 2
code_of NoRoom = 3
code_of BadRuns = 4
code_of BadDoi = 5
code_of BadTag = 6
code_of Inexpressible = 7

-- this is the number of a status with which a call may end so
abbrev pub IsCodeOf : (Status → Type 0) → ℕ → Type 0
IsCodeOf EndsSo number = (status : Status) × (number ≡ code_of status) × EndsSo status
