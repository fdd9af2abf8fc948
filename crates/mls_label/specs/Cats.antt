-- Sets of categories, as ascending lists of distinct numbers from 0 to 65534.
use Rattle.std.specs.Prelude.{ℕ, ◌+◌, ◌<◌, ◌≤◌, Bool, ◌&&◌, List, [], ◌∷◌, nat_eq, nat_le, filter, IsTrue}
use Rattle.std.specs.List.{list_any, range_with_len}

-- c is among the categories
abbrev pub has : List ℕ → ℕ → Bool
has cats c = list_any (nat_eq c) cats

-- ascending numbers, from low on and below high
abbrev pub Ascends : ℕ → ℕ → List ℕ → Type 0
Ascends low high [] = Unit {0}
Ascends low high (c ∷ cats) = (low ≤ c) × (c < high) × Ascends (c + 1) high cats

-- a set of categories: ascending numbers, 65534 the highest
abbrev pub IsCats : List ℕ → Type 0
IsCats cats = Ascends 0 65535 cats

-- the set of the categories that pass a test
unfoldable pub cats_where : (ℕ → Bool) → List ℕ
cats_where passes = filter passes (range_with_len 0 65535)

-- c is one of those from first to last, both included
abbrev pub is_within : ℕ → ℕ → ℕ → Bool
is_within first last c = nat_le first c && nat_le c last

-- each category of a is one of b
abbrev pub IsSubset : List ℕ → List ℕ → Type 0
IsSubset a b = (c : ℕ) → IsTrue (has a c) → IsTrue (has b c)
