-- A set of categories has at most 1,952 maximal runs. A text whose terms need more has a place where it is too much.
use Rattle.std.specs.Prelude.{◌≡◌, ℕ, ◌+◌, ◌<◌, ◌≤◌, Bool, List, [], ◌∷◌, ◌++◌, length, take, IsTrue, ◌⊎◌}
use Rattle.std.specs.Fmt.{decimal}
use Rattle.std.specs.List.{All, flat_map}
use Rattle.mls_label.specs.declared.cat_set.TheConstants.{MOST_RUNS}
use Rattle.mls_label.specs.Runs.{runs_of}
use Rattle.mls_range.specs.LabelText.{letter_s, colon, comma, hyphen, IsTerm, term_text, cats_of_terms}

-- how many maximal runs the categories of the terms have
abbrev pub run_count : List (ℕ × ℕ) → ℕ
run_count terms = length (runs_of (cats_of_terms terms))

-- A term counts where the text ends behind it or a comma follows, and in front of a range's dash where dash says so.
abbrev pub IsCounted : Bool → List ℕ → Type 0
IsCounted dash [] = Unit {0}
IsCounted dash (octet ∷ rest) = (octet ≡ comma) ⊎ (IsTrue dash × (octet ≡ hyphen))

-- a term that another follows
abbrev pub with_comma : ℕ × ℕ → List ℕ
with_comma term = term_text term ++ comma ∷ []

-- A text that begins as a label does: its first counted term after which the set would have too many runs begins at this octet.
pub record CrowdsLabel (dash : Bool) (text : List ℕ) (octet : ℕ) : Type 0 where
  pub level : ℕ
  pub before : List (ℕ × ℕ)
  pub term : ℕ × ℕ
  pub rest : List ℕ
  pub small : level < 256
  pub are : All IsTerm before
  pub is_term : IsTerm term
  pub is : text ≡ letter_s ∷ decimal level ++ colon ∷ (flat_map with_comma before ++ (term_text term ++ rest))
  pub counts : IsCounted dash rest
  pub few : (n : ℕ) → run_count (take n before) ≤ MOST_RUNS
  pub many : MOST_RUNS < run_count (before ++ term ∷ [])
  pub place : octet ≡ 2 + length (decimal level) + length (flat_map with_comma before)

-- there is none
abbrev pub IsRoomy : Bool → List ℕ → Type 0
IsRoomy dash text = (octet : ℕ) → CrowdsLabel dash text octet → ⊥
