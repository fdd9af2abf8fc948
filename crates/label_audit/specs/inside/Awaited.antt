-- What may still be printed, and how what is left of a report is judged by it.
use Rattle.std.specs.Prelude.{ℕ, ◌≡◌, ◌+◌, ◌<◌, Bool, true, false, List, ◌++◌}
use Rattle.label_audit.specs.Good.{FirstLines}

-- whether a text may be printed from here on, or (true) whether it may be all that is
abbrev pub Awaited : Type 1
Awaited = Bool → List ℕ → Type 0

-- the first l lines of what is left begin what may be printed
pub record GoodFrom (may : Awaited) (left : List ℕ) (l : ℕ) : Type 0 where
  pub front : List ℕ
  pub first : FirstLines l left front
  pub more : List ℕ
  pub printed : may false (front ++ more)

-- line l is the first of what is left that isn't good
pub record BadFrom (may : Awaited) (left : List ℕ) (l : ℕ) : Type 0 where
  pub some : 0 < l
  pub before : (k : ℕ) → k < l → GoodFrom may left k
  pub bad : GoodFrom may left l → ⊥
  pub other : may true left → ⊥

-- the same of a line that is counted from the beginning, of which so many stand in front of what is left
pub record BadBehind (may : Awaited) (left : List ℕ) (lines l : ℕ) : Type 0 where
  pub here : ℕ
  pub is : l ≡ lines + here
  pub bad : BadFrom may left here

-- whatever what is left comes to later, it came to before
pub record ComesTo (may : Awaited) (left : List ℕ) (lines : ℕ) (may' : Awaited) (left' : List ℕ) (lines' : ℕ) : Type 0 where
  pub yes : may' true left' → may true left
  pub no : (l : ℕ) → BadBehind may' left' lines' l → BadBehind may left lines l
