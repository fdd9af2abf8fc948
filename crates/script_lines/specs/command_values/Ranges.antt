-- Ranges of labels as static entries and receivers have them.
use Rattle.std.specs.Prelude.{ℕ, ◌<◌, ◌≤◌, ◌==◌, List, [], ◌∷◌, ◌++◌, length, Option, Some, None, option_and_then, if◌then◌else◌}
use Rattle.std.specs.List.{after_first, before_first}
use Rattle.mls_label.specs.declared.label.Label.{Label}
use Rattle.mls_label.specs.declared.cat_set.TheConstants.{MOST_RUNS}
use Rattle.mls_label.specs.Cats.{IsCats}
use Rattle.mls_label.specs.Label.{Dominates}
use Rattle.mls_label.specs.Runs.{runs_of}
use Rattle.mls_range.specs.LabelText.{label_text}
use Rattle.mls_range.specs.Range.{LabelRange}
use Rattle.mls_range.specs.RangeText.{same_label}
use Rattle.mls_range.specs.Computed.{label_of_text, range_of_text}
use Rattle.domain_map.specs.address_text.Name.{is_name}

-- what stands behind a name and a colon
abbrev pub behind_name : List ℕ → Option (List ℕ)
behind_name text = if is_name (before_first (λ c. c == 58) text) then Some (after_first (λ c. c == 58) text) else None

-- what stands behind a user, a role and a type (SELinux), each of which is a name with a colon behind it
abbrev pub behind_context : List ℕ → Option (List ℕ)
behind_context text = option_and_then behind_name (option_and_then behind_name (behind_name text))

-- what the whole text says, or where it says nothing what it says behind a user, a role and a type
abbrev pub in_context : {X : Type 0} → (List ℕ → Option X) → List ℕ → Option X
in_context of text = elim (of text) [ Some x ↦ Some x | None ↦ option_and_then of (behind_context text) ]

-- the range of a static entry
abbrev pub static_range_of_text : List ℕ → Option LabelRange
static_range_of_text text = in_context range_of_text text

-- level 0 without a category
abbrev pub lowest_label : Label
lowest_label = record { level = 0; cats = [] }

-- all labels that a label dominates
abbrev pub range_below : Label → LabelRange
range_below label = record { low = lowest_label; high = label }

-- A receiver's level: one label, whose low end is the lowest label, or a low and a high one.
abbrev pub receiver_range_of_text : List ℕ → Option LabelRange
receiver_range_of_text text = elim (label_of_text text) [ Some label ↦ Some (range_below label) | None ↦ range_of_text text ]

-- a receiver's level is written without a dash just where its low end is the lowest label
abbrev pub receiver_range_text : LabelRange → List ℕ
receiver_range_text range =
    if same_label range.low lowest_label then label_text range.high else label_text range.low ++ 45 ∷ label_text range.high

-- what every label is that code has
pub record IsMlsLabel (label : Label) : Type 0 where
  pub level : label.level < 256
  pub cats : IsCats label.cats
  pub few : length (runs_of label.cats) ≤ MOST_RUNS

-- what every range is
pub record IsMlsRange (range : LabelRange) : Type 0 where
  pub low : IsMlsLabel range.low
  pub high : IsMlsLabel range.high
  pub ordered : Dominates range.high range.low
