-- What lines of several kinds share.
use Rattle.std.specs.Prelude.{ℕ, List, [], ◌∷◌, ◌++◌, codes, slice_get, unwrap_or}
use Rattle.std.specs.Fmt.{decimal}

-- a text and the end of its line
abbrev pub line_of : List ℕ → List ℕ
line_of text = text ++ 10 ∷ []

-- an octet, that of a fault or of an option
abbrev pub octet_detail : ℕ → List ℕ
octet_detail octet = codes " octet " ++ decimal octet

-- the name of the node of this number
abbrev pub name_at : List (List ℕ) → ℕ → List ℕ
name_at names node = unwrap_or (slice_get names node) []
