-- What a file that a call makes holds.
use Rattle.std.specs.Prelude.{ℕ, ◌≡◌, ◌⊎◌, List, take, Option, Some, None}
use Rattle.call_report.specs.Report.{Folder}

-- A file that a call makes, and all octets that it is to hold at the end. It has none, and isn't made, where the stage's input can't be begun.
pub record Output : Type 0 where
  pub name : List ℕ
  pub octets : Option (List ℕ)

-- a file holds what it held, or some first octets of what it is to hold
abbrev pub IsBegun : Output → Folder → Folder → Type 0
IsBegun output old new = (new output.name ≡ old output.name)
    ⊎ ((octets : List ℕ) × (count : ℕ) × (output.octets ≡ Some octets) × (new output.name ≡ Some (take count octets)))

-- a file holds all that it is to hold, or what it held where it isn't made
abbrev pub IsMade : Output → Folder → Folder → Type 0
IsMade output old new = ((octets : List ℕ) → output.octets ≡ Some octets → new output.name ≡ Some octets)
    × (output.octets ≡ None → new output.name ≡ old output.name)
