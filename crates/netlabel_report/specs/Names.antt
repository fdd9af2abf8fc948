-- The reports that words name.
use Rattle.std.specs.Prelude.{ℕ, List, [], ◌∷◌, codes}

-- where no report is named it is read from the standard input, under the name that the system gives it
abbrev pub reports_named : List (List ℕ) → List (List ℕ)
reports_named [] = codes "/dev/stdin" ∷ []
reports_named (name ∷ names) = name ∷ names
