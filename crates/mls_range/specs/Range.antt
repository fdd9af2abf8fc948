-- Ranges of labels (SELinux MLS).
use Rattle.mls_label.specs.declared.label.Label.{Label}
use Rattle.mls_label.specs.Label.{Dominates}

-- a range, as its low and its high label
pub record LabelRange : Type 0 where
  pub low : Label
  pub high : Label

-- the label dominates the low one, and the high one dominates it
pub record RangeHolds (range : LabelRange) (label : Label) : Type 0 where
  pub low : Dominates label range.low
  pub high : Dominates range.high label
