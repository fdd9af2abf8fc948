-- Why a link isn't covered, by the first reason that holds.
use Rattle.std.specs.Prelude.{◌≡◌, ℕ, ◌<◌, true, List, [], Contains, Some, None}
use Rattle.mls_range.specs.Range.{LabelRange}
use Rattle.domain_map.specs.declared.static_map.StaticEntry.{StaticEntry}
use Rattle.domain_map.specs.Statics.{entries_for}
use Rattle.label_commands.specs.node_readings.Reading.{NamedMeanings}
use Rattle.label_commands.specs.node_readings.Meaning.{Meaning, meaning_of}
use Rattle.node_tables.specs.Tables.{TableState, find_range_of}
use Rattle.label_flow.specs.node_agreement.Agreement.{Agree}
use Rattle.label_flow.specs.node_agreement.First.{IsFirst}
use Rattle.static_law.specs.declared.uncovered.Uncovered.{Uncovered}
use Rattle.static_law.specs.declared.uncovered.Uncovered.TheVariants.{Differ, NoRange, Entry}
use Rattle.static_law.specs.Covered.{MeansNoLess}

-- the entry at this place is among these and doesn't mean so much, and each of them in front of it means no less
pub record IsFirstLow (entries : List (ℕ × StaticEntry)) (named : NamedMeanings) (least : Meaning) (place : ℕ) : Type 0 where
  pub entry : StaticEntry
  pub counts : Contains entries (place, entry)
  pub low : MeansNoLess named least entry → ⊥
  pub first : (before : ℕ) (other : StaticEntry) → before < place → Contains entries (before, other) → MeansNoLess named least other

-- the nodes agree, and the right one gives a label to some of what comes in there without one
pub record MayLabel (left right : TableState) (into : List ℕ) (left_named right_named : NamedMeanings) : Type 0 where
  pub agree : Agree left right left_named right_named
  pub accepts : right.accepts ≡ true
  pub some : entries_for right.statics into ≡ [] → ⊥

-- the first reason: a difference, no range, or the first entry in question that means less than the range
abbrev pub IsUncovered : TableState → List ℕ → TableState → List ℕ → NamedMeanings → NamedMeanings → Uncovered → Type 0
IsUncovered left out right into left_named right_named (Differ difference) = IsFirst left right left_named right_named difference
IsUncovered left out right into left_named right_named NoRange = MayLabel left right into left_named right_named × (find_range_of left.ranges out ≡ None)
IsUncovered left out right into left_named right_named (Entry index) =
    MayLabel left right into left_named right_named × ((range : LabelRange) × (find_range_of left.ranges out ≡ Some range)
    × IsFirstLow (entries_for right.statics into) right_named (meaning_of left_named range.high) index)
