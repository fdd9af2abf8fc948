-- How a text compares with what is left of a file.
use Rattle.std.specs.Prelude.{◌≡◌, ◌≢◌, ◌==◌, ℕ, List, ◌∷◌, ◌++◌, count_by, slice_get, Some}
use Rattle.call_report.specs.declared.report_file.meeting.Met.{Met}
use Rattle.call_report.specs.declared.report_file.meeting.Met.TheVariants.{Stands, Differs}

-- how many lines end in octets
abbrev pub lines_in : List ℕ → ℕ
lines_in octets = count_by (λ octet. octet == 10) octets

-- A text goes on as what is left does, behind so many ends of lines, up to an octet that isn't there.
pub record DiffersBehind (lines : ℕ) (left text : List ℕ) : Type 0 where
  pub front : List ℕ
  pub octet : ℕ
  pub more : List ℕ
  pub behind : List ℕ
  pub of_text : text ≡ front ++ octet ∷ more
  pub of_left : left ≡ front ++ behind
  pub other : slice_get behind 0 ≢ Some octet
  pub count : lines ≡ lines_in front

-- the text stands first in what is left, or differs
abbrev pub IsMet : Met → List ℕ → List ℕ → Type 0
IsMet Stands left text = (behind : List ℕ) × (left ≡ text ++ behind)
IsMet (Differs lines) left text = DiffersBehind lines left text
