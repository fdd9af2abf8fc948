-- Pairs of numbers: the first number of a pair leads to its second.
use Rattle.std.specs.Prelude.{ℕ, Bool, true, ◌&&◌, not, List, [], ◌∷◌, Option, nat_eq, map}
use Rattle.std.specs.Map.{lookup}
use Rattle.mls_label.specs.Cats.{has}

-- the second number of the first pair that begins with n
abbrev pub number_by : List (ℕ × ℕ) → ℕ → Option ℕ
number_by pairs n = lookup (nat_eq n) pairs

-- each pair the other way round
abbrev pub flipped : List (ℕ × ℕ) → List (ℕ × ℕ)
flipped pairs = map (λ p. (p.1, p.0)) pairs

-- the first numbers of pairs
abbrev pub firsts : List (ℕ × ℕ) → List ℕ
firsts pairs = map (λ p. p.0) pairs

-- their second numbers
abbrev pub seconds : List (ℕ × ℕ) → List ℕ
seconds pairs = map (λ p. p.1) pairs

-- no number stands twice
abbrev pub are_distinct : List ℕ → Bool
are_distinct [] = true
are_distinct (n ∷ ns) = not (has ns n) && are_distinct ns

-- no two pairs have an equal first or an equal second number
abbrev pub is_one_to_one : List (ℕ × ℕ) → Bool
is_one_to_one pairs = are_distinct (firsts pairs) && are_distinct (seconds pairs)
