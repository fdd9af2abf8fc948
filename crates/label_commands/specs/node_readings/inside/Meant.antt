-- What a set of categories means.
use Rattle.std.specs.Prelude.{◌≡◌, ℕ, List, IsTrue}
use Rattle.mls_label.specs.Cats.{has}
use Rattle.label_commands.specs.node_readings.Reading.{meaning_in}

-- one of the categories means this
pub record IsMeant (cats : List ℕ) (named : List (ℕ × ℕ)) (meaning : ℕ) : Type 0 where
  pub category : ℕ
  pub there : IsTrue (has cats category)
  pub means : meaning_in named category ≡ meaning

-- each of the other categories means what one of these means
abbrev pub AreMeant : List ℕ → List (ℕ × ℕ) → (ℕ → Type 0) → List (ℕ × ℕ) → Type 0
AreMeant cats named among other_named = (c : ℕ) → among c → IsMeant cats named (meaning_in other_named c)
