-- The range of labels that an interface takes.
use Rattle.std.specs.Prelude.{ℕ, Bool, false, not, ◌&&◌, List, Some, None}
use Rattle.mls_label.specs.declared.label.Label.{Label}
use Rattle.mls_range.specs.Range.{LabelRange}
use Rattle.mls_range.specs.Computed.{dominates}
use Rattle.node_tables.specs.Tables.{Ranges, find_range_of}

-- the same as `RangeHolds`, as a test
abbrev pub in_range : LabelRange → Label → Bool
in_range range label = dominates label range.low && dominates range.high label

-- the interface has a range, its own or else the default one, that doesn't hold both labels
unfoldable pub is_outside : Ranges → List ℕ → Label → Label → Bool
is_outside ranges interface low high = elim (find_range_of ranges interface) [
  | None ↦ false
  | Some range ↦ not (in_range range low && in_range range high)
]
