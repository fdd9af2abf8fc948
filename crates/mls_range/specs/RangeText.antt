-- Texts of ranges: one label, or two labels joined by a dash.
use Rattle.std.specs.Prelude.{◌≡◌, ℕ, ◌+◌, Bool, true, false, ◌&&◌, nat_eq, List, ◌∷◌, ◌++◌, length, ◌⊎◌, if◌then◌else◌}
use Rattle.std.specs.Str.{bytes_eq}
use Rattle.mls_label.specs.octet_grammar.Fault.{IsFault}
use Rattle.mls_label.specs.declared.label.Label.{Label}
use Rattle.mls_label.specs.Label.{Dominates}
use Rattle.mls_range.specs.declared.fault.TextKind.{TextKind}
use Rattle.mls_range.specs.declared.fault.TextKind.TheVariants.{Grammar, End, TooManyRuns, NotOrdered}
use Rattle.mls_range.specs.declared.fault.TextFault.{TextFault}
use Rattle.mls_range.specs.LabelText.{hyphen, IsLabelText, label_text}
use Rattle.mls_range.specs.Crowd.{CrowdsLabel, IsRoomy}
use Rattle.mls_range.specs.Place.{octet_fault, end_fault}
use Rattle.mls_range.specs.Range.{LabelRange}

-- one label, which is both ends
pub record IsLone (text : List ℕ) (range : LabelRange) : Type 0 where
  pub low : IsLabelText text range.low
  pub high : range.high ≡ range.low

-- the low label, a dash, the high label
pub record IsPair (text : List ℕ) (range : LabelRange) : Type 0 where
  pub low_text : List ℕ
  pub high_text : List ℕ
  pub is : text ≡ low_text ++ hyphen ∷ high_text
  pub low : IsLabelText low_text range.low
  pub high : IsLabelText high_text range.high

abbrev pub IsRangeText : List ℕ → LabelRange → Type 0
IsRangeText text range = IsLone text range ⊎ IsPair text range

-- the same level and the same categories
abbrev pub same_label : Label → Label → Bool
same_label a b = nat_eq a.level b.level && bytes_eq a.cats b.cats

-- the one written form: one label where both ends are the same
abbrev pub range_text : LabelRange → List ℕ
range_text range = if same_label range.high range.low then label_text range.low else label_text range.low ++ hyphen ∷ label_text range.high

-- the term that is too much stands in the high label, behind a low label that has its place
pub record CrowdsHigh (text : List ℕ) (octet : ℕ) : Type 0 where
  pub low_text : List ℕ
  pub high_text : List ℕ
  pub low : Label
  pub at : ℕ
  pub is : text ≡ low_text ++ hyphen ∷ high_text
  pub is_low : IsLabelText low_text low
  pub roomy : IsRoomy true text
  pub crowds : CrowdsLabel false high_text at
  pub place : octet ≡ length low_text + 1 + at

-- the first term that is too much in a text that is read as a range
abbrev pub CrowdsRange : List ℕ → ℕ → Type 0
CrowdsRange text octet = CrowdsLabel true text octet ⊎ CrowdsHigh text octet

abbrev pub IsRoomyRange : List ℕ → Type 0
IsRoomyRange text = (octet : ℕ) → CrowdsRange text octet → ⊥

-- both labels are read, and the high one, which begins at this octet, doesn't dominate the low one
pub record IsUnordered (text : List ℕ) (octet : ℕ) : Type 0 where
  pub range : LabelRange
  pub pair : IsPair text range
  pub roomy : IsRoomyRange text
  pub other : Dominates range.high range.low → ⊥
  pub place : octet ≡ length pair.low_text + 1

-- the fault of a text that is read as a range
abbrev pub FailsRange : List ℕ → ℕ → TextKind → Type 0
FailsRange text octet Grammar = IsFault IsRangeText text (octet_fault octet) × IsRoomyRange text
FailsRange text octet End = IsFault IsRangeText text (end_fault octet) × IsRoomyRange text
FailsRange text octet TooManyRuns = CrowdsRange text octet
FailsRange text octet NotOrdered = IsUnordered text octet

-- the same, of a fault as a whole
abbrev pub StopsRange : List ℕ → TextFault → Type 0
StopsRange text fault = FailsRange text fault.octet fault.kind
