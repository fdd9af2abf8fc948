-- The versions that a line names at its end.
use Rattle.std.specs.Prelude.{◌≡◌, ◌==◌, ◌<◌, ◌≤◌, ◌^◌, ℕ, false, List, ◌∷◌, ◌++◌, length, All}
use Rattle.std.specs.List.{list_any}
use Rattle.call_report.specs.Lines.Flow.{versions_text}

-- The line that stands first in what is left ends with a blank and these versions.
pub record EndsWithVersions (left versions : List ℕ) : Type 0 where
  pub front : List ℕ
  pub behind : List ℕ
  pub one : list_any (λ octet. octet == 10) front ≡ false
  pub is : left ≡ front ++ 32 ∷ (versions_text versions ++ 10 ∷ behind)

-- as many versions as a packet may have, each below 2^32
abbrev pub AreVersions : List ℕ → Type 0
AreVersions versions = (length versions ≤ 16) × All (λ v. v < 2 ^ 32) versions
