-- Lists of entries with commas between.
use Rattle.std.specs.Prelude.{ℕ, ◌<◌, ◌==◌, List, [], ◌∷◌, length, map, Option, Some, None, option_map}
use Rattle.std.specs.List.{All, join_with_byte, slice_split}

-- each of them, or none where one is missing
abbrev pub all_of : {X : Type 0} → List (Option X) → Option (List X)
all_of [] = Some []
all_of (None ∷ rest) = None
all_of (Some x ∷ rest) = option_map (λ xs. x ∷ xs) (all_of rest)

-- the entries that stand between the commas of a text, or none where one of them is none
abbrev pub list_of_text : {X : Type 0} → (List ℕ → Option X) → List ℕ → Option (List X)
list_of_text of text = all_of (map of (slice_split (λ c. c == 44) text))

-- the entries' texts with commas between
abbrev pub list_text : {X : Type 0} → (X → List ℕ) → List X → List ℕ
list_text text_of entries = join_with_byte 44 (map text_of entries)

-- there are some, and each of them is an entry
pub record AreEntries {X : Type 0} (is_entry : X → Type 0) (entries : List X) : Type 0 where
  pub some : 0 < length entries
  pub each : All is_entry entries
