-- Labels and their dominance (SELinux MLS).
use Rattle.std.specs.Prelude.{◌≤◌, ◌<◌}
use Rattle.mls_label.specs.declared.label.Label.{Label}
use Rattle.mls_label.specs.Cats.{IsCats, IsSubset}

-- a level and categories that a label has
pub record IsLabel (label : Label) : Type 0 where
  pub level : label.level < 256
  pub cats : IsCats label.cats

-- a's level is at least b's, and each category of b is one of a
pub record Dominates (a b : Label) : Type 0 where
  pub level : b.level ≤ a.level
  pub cats : IsSubset b.cats a.cats
