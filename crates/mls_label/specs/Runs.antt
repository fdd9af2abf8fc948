-- The maximal runs of a set: neighbours belong to one run, and between two runs a number is missing.
use Rattle.std.specs.Prelude.{ℕ, ◌≡◌, ◌+◌, ◌-◌, ◌≤◌, List, [], ◌∷◌, ◌++◌, ◌==◌, if◌then◌else◌}
use Rattle.std.specs.List.{range_with_len}

-- the runs with one more category in front: it belongs to the first run where it stands directly before it
abbrev pub join_front : ℕ → List (ℕ × ℕ) → List (ℕ × ℕ)
join_front c [] = (c, c) ∷ []
join_front c (r ∷ runs) = if r.0 == c + 1 then (c, r.1) ∷ runs else (c, c) ∷ r ∷ runs

-- the maximal runs of ascending numbers, each as its first and its last
abbrev pub runs_of : List ℕ → List (ℕ × ℕ)
runs_of [] = []
runs_of (c ∷ cats) = join_front c (runs_of cats)

-- the numbers of the runs, one run after another
abbrev pub numbers_of : List (ℕ × ℕ) → List ℕ
numbers_of [] = []
numbers_of (r ∷ runs) = range_with_len r.0 (r.1 + 1 - r.0) ++ numbers_of runs

-- ascending runs from low on, and a number missing between two
abbrev pub AreSpaced : ℕ → List (ℕ × ℕ) → Type 0
AreSpaced low [] = Unit {0}
AreSpaced low (r ∷ runs) = (low ≤ r.0) × (r.0 ≤ r.1) × AreSpaced (r.1 + 2) runs

-- these are the maximal runs of the set
pub record AreRunsOf (runs : List (ℕ × ℕ)) (cats : List ℕ) : Type 0 where
  pub numbers : numbers_of runs ≡ cats
  pub spaced : AreSpaced 0 runs
