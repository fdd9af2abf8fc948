-- Texts in quotes.
use Rattle.std.specs.Prelude.{ℕ, ◌==◌, ◌||◌, List, [], ◌∷◌, ◌++◌, if◌then◌else◌}
use Rattle.std.specs.List.{flat_map}

-- a quote, and the mark itself, stand behind the mark
abbrev pub marked : ℕ → ℕ → List ℕ
marked mark octet = if octet == 34 || octet == mark then mark ∷ octet ∷ [] else octet ∷ []

-- a text in quotes: of JSON (RFC 8259, section 7) the mark is a backslash, of CSV (RFC 4180, section 2) a quote
abbrev pub quoted : ℕ → List ℕ → List ℕ
quoted mark text = 34 ∷ flat_map (marked mark) text ++ 34 ∷ []
