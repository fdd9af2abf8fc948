-- The list of the calls on a folder in memory that have failed.
use Rattle.std.specs.Prelude.{ℕ, Bool, true, false, ◌&&◌, List, bytes_eq, string_bytes, count_by}
use Rattle.net_io.specs.declared.failed.FailedCall.{FailedCall}
use Rattle.net_io.specs.declared.failed.DepotCall.{DepotCall}
use Rattle.net_io.specs.declared.failed.DepotCall.TheVariants.{Read, Create, Append}

abbrev pub is_same_call : DepotCall → DepotCall → Bool
is_same_call Read Read = true
is_same_call Create Create = true
is_same_call Append Append = true
is_same_call Read Create = false
is_same_call Read Append = false
is_same_call Create Read = false
is_same_call Create Append = false
is_same_call Append Read = false
is_same_call Append Create = false

-- whether a failed call is of this kind and on this name
abbrev pub is_failed : DepotCall → List ℕ → FailedCall → Bool
is_failed call name failed = is_same_call call failed.call && bytes_eq (string_bytes failed.name) name

-- how many calls of this kind have failed on this name
abbrev pub failed_in : List FailedCall → DepotCall → List ℕ → ℕ
failed_in failed call name = count_by (is_failed call name) failed
