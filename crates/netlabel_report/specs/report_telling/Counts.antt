-- What is counted while reports are read.
use Rattle.std.specs.Prelude.{ℕ, ◌+◌, Bool, false, ◌&&◌, ◌||◌, ◌==◌, nat_lt, List, [], ◌∷◌, ◌++◌, length, if◌then◌else◌}
use Rattle.std.specs.Str.{bytes_eq}
use Rattle.std.specs.List.{list_any}
use Rattle.netlabel_report.specs.declared.report_telling.counts.Progress.{Progress}

-- one more; a number stands still at its type's end
abbrev pub risen : ℕ → ℕ
risen n = if nat_lt n 18446744073709551615 then n + 1 else n

-- nothing was read yet
abbrev pub start_progress : Progress
start_progress = record { reports = 0; unfinished = 0; stopped = 0; commands = 0; refused = 0; delivered = 0; sent = 0; denied = 0; elsewhere = 0; line = 0; due = 0; finished = false }

-- How many packets were denied for a reason, at a hop of a node.
pub record Tally : Type 0 where
  pub reason : ℕ
  pub name : List ℕ
  pub hop : ℕ
  pub node : List ℕ
  pub count : ℕ

-- denials for a reason, at a hop of a node
abbrev pub is_tally : ℕ → ℕ → List ℕ → Tally → Bool
is_tally reason hop node tally = tally.reason == reason && tally.hop == hop && bytes_eq tally.node node

-- one more in the first such tally
abbrev pub raised : ℕ → ℕ → List ℕ → List Tally → List Tally
raised reason hop node [] = []
raised reason hop node (tally ∷ tallies) = if is_tally reason hop node tally then record tally { count = risen tally.count } ∷ tallies else tally ∷ raised reason hop node tallies

-- there is such a tally, or room for one
abbrev pub is_counted : ℕ → ℕ → List ℕ → List Tally → Bool
is_counted reason hop node tallies = list_any (is_tally reason hop node) tallies || nat_lt (length tallies) 4096

-- one more in its tally, in a new one where there is room
abbrev pub tallied : ℕ → List ℕ → ℕ → List ℕ → List Tally → List Tally
tallied reason name hop node tallies =
    if list_any (is_tally reason hop node) tallies then raised reason hop node tallies
    else if nat_lt (length tallies) 4096 then tallies ++ record { reason = reason; name = name; hop = hop; node = node; count = 1 } ∷ []
    else tallies
