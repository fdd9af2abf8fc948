-- Texts of labels, as SELinux MLS writes them: `s<N>`, or `s<N>:` and terms separated by commas.
use Rattle.std.specs.Prelude.{◌≡◌, ℕ, ◌+◌, ◌<◌, ◌≤◌, Bool, ◌||◌, List, [], ◌∷◌, ◌++◌, map, ◌==◌, if◌then◌else◌}
use Rattle.std.specs.Fmt.{decimal}
use Rattle.std.specs.List.{All, flat_map, join_with_byte, list_any}
use Rattle.mls_label.specs.declared.label.Label.{Label}
use Rattle.mls_label.specs.Cats.{cats_where, is_within}
use Rattle.mls_label.specs.Runs.{runs_of}

-- the characters beside digits: s c : , . -
abbrev pub letter_s : ℕ
letter_s = 115

abbrev pub letter_c : ℕ
letter_c = 99

abbrev pub colon : ℕ
colon = 58

abbrev pub comma : ℕ
comma = 44

abbrev pub dot : ℕ
dot = 46

abbrev pub hyphen : ℕ
hyphen = 45

-- a term is all categories from the first to the last
abbrev pub IsTerm : ℕ × ℕ → Type 0
IsTerm term = (term.0 ≤ term.1) × (term.1 < 65535)

-- `c<N>` for one category, else `c<M>.c<N>`
abbrev pub term_text : ℕ × ℕ → List ℕ
term_text term = if term.0 == term.1 then letter_c ∷ decimal term.0 else letter_c ∷ decimal term.0 ++ dot ∷ letter_c ∷ decimal term.1

-- nothing where there is no term, else a colon and the terms joined by commas
abbrev pub terms_text : List (ℕ × ℕ) → List ℕ
terms_text [] = []
terms_text (term ∷ terms) = colon ∷ join_with_byte comma (map term_text (term ∷ terms))

-- some term has the category
abbrev pub term_has : List (ℕ × ℕ) → ℕ → Bool
term_has terms c = list_any (λ term. is_within term.0 term.1 c) terms

-- the categories of the terms, in whatever order these come
abbrev pub cats_of_terms : List (ℕ × ℕ) → List ℕ
cats_of_terms terms = cats_where (term_has terms)

-- Decimal numbers have no leading zero. Levels end at 255 and categories at 65534; terms may overlap and repeat.
pub record IsLabelText (text : List ℕ) (label : Label) : Type 0 where
  pub terms : List (ℕ × ℕ)
  pub are : All IsTerm terms
  pub is : text ≡ letter_s ∷ decimal label.level ++ terms_text terms
  pub level : label.level < 256
  pub cats : label.cats ≡ cats_of_terms terms

-- a run of two categories is written as two terms, each other run as one
abbrev pub terms_of_run : ℕ × ℕ → List (ℕ × ℕ)
terms_of_run run = if run.0 + 1 == run.1 then (run.0, run.0) ∷ (run.1, run.1) ∷ [] else run ∷ []

-- an octet of a label's text
abbrev pub is_label_octet : ℕ → Bool
is_label_octet c = is_within 48 57 c || c == letter_s || c == letter_c || c == colon || c == comma || c == dot

-- the one written form: the terms ascend by maximal runs
abbrev pub label_text : Label → List ℕ
label_text label = letter_s ∷ decimal label.level ++ terms_text (flat_map terms_of_run (runs_of label.cats))
