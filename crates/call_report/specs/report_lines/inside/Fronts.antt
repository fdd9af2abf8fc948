-- A label's one written form, piece by piece.
use Rattle.std.specs.Prelude.{ℕ, ◌==◌, List, [], ◌∷◌, ◌++◌, map, Option, Some, None, if◌then◌else◌}
use Rattle.std.specs.Fmt.{decimal}
use Rattle.std.specs.List.{join_with_byte}
use Rattle.mls_range.specs.LabelText.{letter_c, comma, term_text, terms_of_run}

-- what follows a front of a text, None where the text begins otherwise
abbrev pub after_text : List ℕ → List ℕ → Option (List ℕ)
after_text [] text = Some text
after_text (octet ∷ front) [] = None
after_text (octet ∷ front) (first ∷ text) = if first == octet then after_text front text else None

-- a category's letter and number
abbrev pub category_text : ℕ → List ℕ
category_text category = letter_c ∷ decimal category

-- the terms of a run
abbrev pub run_text : ℕ × ℕ → List ℕ
run_text run = join_with_byte comma (map term_text (terms_of_run run))

-- each run behind a separator, the first one behind this
abbrev pub runs_text : ℕ → List (ℕ × ℕ) → List ℕ
runs_text separator [] = []
runs_text separator (run ∷ runs) = separator ∷ run_text run ++ runs_text comma runs
