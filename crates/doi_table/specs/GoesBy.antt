-- What a translation does, number by number.
use Rattle.std.specs.Prelude.{◌≡◌, ℕ, Option, Some, IsTrue}
use Rattle.mls_label.specs.declared.label.Label.{Label}
use Rattle.mls_label.specs.Cats.{has}

-- y's level is that of x's, and y's categories are those of x's categories, each of which has one
pub record GoesBy (level cat : ℕ → Option ℕ) (x y : Label) : Type 0 where
  pub levels : level x.level ≡ Some y.level
  pub onto : (c : ℕ) → IsTrue (has x.cats c) → (d : ℕ) × (cat c ≡ Some d) × IsTrue (has y.cats d)
  pub from : (d : ℕ) → IsTrue (has y.cats d) → (c : ℕ) × IsTrue (has x.cats c) × (cat c ≡ Some d)
