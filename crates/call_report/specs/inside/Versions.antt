-- Versions behind a first one.
use Rattle.std.specs.Prelude.{ℕ, List, [], ◌∷◌, ◌++◌, codes}
use Rattle.std.specs.Fmt.{decimal}

-- each behind a comma
abbrev pub versions_behind : List ℕ → List ℕ
versions_behind [] = []
versions_behind (version ∷ versions) = codes "," ++ decimal version ++ versions_behind versions
