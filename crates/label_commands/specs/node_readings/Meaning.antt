-- What a label means to the operators of a node.
use Rattle.std.specs.Prelude.{ℕ, ◌≤◌, IsTrue, map}
use Rattle.std.specs.Ordering.{nat_cmp}
use Rattle.std.specs.FinSet as set
use Rattle.mls_label.specs.declared.label.Label.{Label}
use Rattle.label_commands.specs.node_readings.Reading.{NamedMeanings, meaning_in}

-- the meaning of a level, and the set of the meanings of categories
pub record Meaning : Type 0 where
  pub level : ℕ
  pub cats : set.FinSet nat_cmp

-- what a label means under a reading
abbrev pub meaning_of : NamedMeanings → Label → Meaning
meaning_of named label = record { level = meaning_in named.levels label.level; cats = set.from_list (map (meaning_in named.cats) label.cats) }

-- a's level is at least b's, and each of b's categories is one of a's
pub record MeansDominates (a b : Meaning) : Type 0 where
  pub level : b.level ≤ a.level
  pub cats : (n : ℕ) → IsTrue (set.contains b.cats n) → IsTrue (set.contains a.cats n)
