-- The categories of a set, one by one through a translation of numbers.
use Rattle.std.specs.Prelude.{◌≡◌, ℕ, ◌+◌, ◌-◌, ◌||◌, List, [], ◌∷◌, ◌++◌, Option, Result, Ok, Err}
use Rattle.std.specs.List.{range_with_len}
use Rattle.std.specs.Option.{option_map_or}
use Rattle.mls_label.specs.Cats.{has, is_within, cats_where, Ascends}
use Rattle.doi_table.specs.Pairs.{number_by}

-- the set with one more category
abbrev pub joined : List ℕ → ℕ → List ℕ
joined cats d = cats_where (λ c. has cats c || is_within d d c)

-- what f gives for the categories joined to a set, or the first that has nothing
abbrev pub walk : (ℕ → Option ℕ) → List ℕ → List ℕ → Result (List ℕ) ℕ
walk f [] set = Ok set
walk f (c ∷ cats) set = option_map_or (λ d. walk f cats (joined set d)) (f c) (Err c)

-- the run is walked: whatever categories come behind it go on with the rest of the pairs and the new set
abbrev pub GoesOn : List (ℕ × ℕ) → List (ℕ × ℕ) → ℕ → ℕ → List ℕ → List ℕ → Type 0
GoesOn pairs rest first last old new = (cats : List ℕ) → Ascends (last + 1) 65535 cats
    → walk (number_by pairs) (range_with_len first (last + 1 - first) ++ cats) old ≡ walk (number_by rest) cats new

-- the run isn't walked: whatever comes behind it, c is the first category that has nothing
abbrev pub StopsAt : List (ℕ × ℕ) → ℕ → ℕ → List ℕ → ℕ → Type 0
StopsAt pairs first last old c = (cats : List ℕ) → Ascends (last + 1) 65535 cats
    → walk (number_by pairs) (range_with_len first (last + 1 - first) ++ cats) old ≡ Err c
