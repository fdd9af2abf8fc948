-- How a set is kept: as its runs.
use Rattle.std.specs.Prelude.{ℕ, ◌+◌, ◌-◌, ◌<◌, ◌≤◌, min, max, List, [], ◌∷◌, ◌++◌, length}
use Rattle.std.specs.List.{range_with_len, AllWithin}
use Rattle.mls_label.specs.declared.cat_set.Run.{Run}
use Rattle.mls_label.specs.declared.cat_set.TheConstants.{MOST_RUNS}

-- the numbers of the runs, one run after another
abbrev pub cats_of : List Run → List ℕ
cats_of [] = []
cats_of (r ∷ runs) = range_with_len r.first (r.last + 1 - r.first) ++ cats_of runs

-- ascending runs from low on, and a number missing between two
abbrev pub AreApart : ℕ → List Run → Type 0
AreApart low [] = Unit {0}
AreApart low (r ∷ runs) = (low ≤ r.first) × (r.first ≤ r.last) × (r.last < 65535) × AreApart (r.last + 2) runs

pub record AreKeptRuns (runs : List Run) : Type 0 where
  pub apart : AreApart 0 runs
  pub few : length runs ≤ MOST_RUNS

-- the least run that holds both
abbrev pub hull : Run → Run → Run
hull a b = record { first = min a.first b.first; last = max a.last b.last }

-- the runs from start to end meet the run or stand directly beside it; those before and after don't
pub record IsPlace (runs : List Run) (run : Run) (start end : ℕ) : Type 0 where
  pub order : start ≤ end
  pub within : end ≤ length runs
  pub before : AllWithin (λ (r : Run). r.last + 1 < run.first) runs 0 start
  pub met : AllWithin (λ (r : Run). run.first ≤ r.last + 1) runs start (length runs)
  pub reached : AllWithin (λ (r : Run). r.first ≤ run.last + 1) runs 0 end
  pub after : AllWithin (λ (r : Run). run.last + 1 < r.first) runs end (length runs)
