-- What a node's numbers mean to its operators. In a pair the local number comes first, its meaning second.
use Rattle.std.specs.Prelude.{◌≡◌, ℕ, ◌+◌, ◌<◌, Bool, ◌&&◌, ◌||◌, not, nat_le, nat_lt, List, Option, Some, None, is_some, unwrap_or, IsTrue, if◌then◌else◌}
use Rattle.std.specs.List.{All, list_all, range_with_len}
use Rattle.doi_table.specs.Pairs.{number_by, firsts, are_distinct, is_one_to_one}
use Rattle.label_commands.specs.declared.node_readings.fault.ReadingFault.{ReadingFault}
use Rattle.label_commands.specs.declared.node_readings.fault.ReadingFault.TheVariants.{NotIncreasing, NotDistinct, OutOfMemory}

-- the meanings that a reading names
pub record NamedMeanings : Type 0 where
  pub levels : List (ℕ × ℕ)
  pub cats : List (ℕ × ℕ)

-- what a number means: what is named for it first, else itself
abbrev pub meaning_in : List (ℕ × ℕ) → ℕ → ℕ
meaning_in pairs n = unwrap_or (number_by pairs n) n

-- no number is named twice
abbrev pub names_once : List (ℕ × ℕ) → Bool
names_once pairs = are_distinct (firsts pairs)

-- the meanings of the 256 levels strictly increase
unfoldable pub is_increasing : List (ℕ × ℕ) → Bool
is_increasing levels = list_all (λ n. nat_lt (meaning_in levels n) (meaning_in levels (n + 1))) (range_with_len 0 255)

-- No two of the 65,535 categories mean the same: no two pairs have an equal category or an equal meaning, and no meaning is a
-- category that isn't named.
abbrev pub is_distinct : List (ℕ × ℕ) → Bool
is_distinct cats = is_one_to_one cats && list_all (λ p. nat_le 65535 p.1 || is_some (number_by cats p.1)) cats

-- why pairs of levels and of categories are no reading, by the first reason that holds
abbrev pub reading_fault : List (ℕ × ℕ) → List (ℕ × ℕ) → Option ReadingFault
reading_fault levels cats =
    if not (is_increasing levels) then Some NotIncreasing
    else (if names_once levels && is_distinct cats then None else Some NotDistinct)

-- a fault that may be answered: the one that there is, or want of memory
abbrev pub IsReadingFault : List (ℕ × ℕ) → List (ℕ × ℕ) → ReadingFault → Type 0
IsReadingFault levels cats OutOfMemory = Unit {0}
IsReadingFault levels cats fault = reading_fault levels cats ≡ Some fault

-- what every reading is
pub record IsReading (named : NamedMeanings) : Type 0 where
  pub increasing : IsTrue (is_increasing named.levels)
  pub levels_once : IsTrue (names_once named.levels)
  pub distinct : IsTrue (is_distinct named.cats)
  pub categories : All (λ (p : ℕ × ℕ). p.0 < 65535) named.cats
