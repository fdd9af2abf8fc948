-- What the making of a file keeps, and what a new guard has.
use Rattle.std.specs.Prelude.{◌≡◌, ◌⊎◌, IsTrue, List, [], ◌∷◌, ◌++◌, Contains}
use Rattle.net_io.specs.declared.guard.Identity.{Identity}
use Rattle.net_io.specs.declared.guard.Guard.{Guard}

-- One file more is kept, which wasn't before.
pub record KeepsAnother (old new : List Identity) : Type 0 where
  pub made : Identity
  pub free : Contains old made → ⊥
  pub kept : new ≡ old ++ made ∷ []

-- one file is guarded, or every one
abbrev pub GuardsOneOrAll : Guard → Type 0
GuardsOneOrAll guard = ((identity : Identity) × (guard.kept.items ≡ identity ∷ [])) ⊎ IsTrue guard.shut
