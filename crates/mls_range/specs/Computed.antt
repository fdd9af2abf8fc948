-- Labels and ranges of their texts as functions that compute: what a text would say is guessed from its parts, and taken where the
-- text is the one that is written for it. Laws tie them to `IsLabelText` and `IsRangeText`; texts with too many runs have no value.
use Rattle.std.specs.Prelude.{ℕ, ◌+◌, ◌-◌, Bool, ◌&&◌, ◌||◌, ◌==◌, nat_le, nat_lt, List, [], ◌∷◌, ◌++◌, length, map, take, drop, Option, Some, None, option_map, option_and_then, if◌then◌else◌}
use Rattle.std.specs.Fmt.{decimal}
use Rattle.std.specs.List.{list_all, range_with_len, slice_split}
use Rattle.std.specs.Str.{bytes_eq}
use Rattle.std.specs.Str.Parse.{digits_value}
use Rattle.mls_label.specs.declared.cat_set.TheConstants.{MOST_RUNS}
use Rattle.mls_label.specs.declared.label.Label.{Label}
use Rattle.mls_label.specs.Cats.{has}
use Rattle.mls_range.specs.LabelText.{letter_s, colon, comma, dot, hyphen, terms_text, term_has, cats_of_terms}
use Rattle.mls_range.specs.Crowd.{run_count}
use Rattle.mls_range.specs.Range.{LabelRange}

-- what a label's text says
pub record LabelTerms : Type 0 where
  pub level : ℕ
  pub terms : List (ℕ × ℕ)

-- the label that a level and terms say
abbrev pub label_of_terms : LabelTerms → Label
label_of_terms said = record { level = said.level; cats = cats_of_terms said.terms }

-- the number behind a letter
abbrev pub number_behind_letter : List ℕ → ℕ
number_behind_letter part = digits_value 10 (drop 1 part)

-- the term with these parts around its dot, or with one part
abbrev pub term_of_parts : List (List ℕ) → ℕ × ℕ
term_of_parts [] = (0, 0)
term_of_parts (one ∷ []) = (number_behind_letter one, number_behind_letter one)
term_of_parts (first ∷ last ∷ parts) = (number_behind_letter first, number_behind_letter last)

-- the level, and the terms behind the separators
abbrev pub said_by_parts : List (List ℕ) → LabelTerms
said_by_parts [] = record { level = 0; terms = [] }
said_by_parts (level ∷ terms) =
    record { level = number_behind_letter level; terms = map (λ term. term_of_parts (slice_split (λ c. c == dot) term)) terms }

-- each term ascends or is one category, and all are below 65535
abbrev pub are_terms : List (ℕ × ℕ) → Bool
are_terms terms = list_all (λ term. nat_le term.0 term.1 && nat_lt term.1 65535) terms

-- no front of the terms needs more than 1,952 runs; up to 1,952 terms never do
abbrev pub is_roomy : List (ℕ × ℕ) → Bool
is_roomy terms = nat_le (length terms) MOST_RUNS || list_all (λ n. nat_le (run_count (take n terms)) MOST_RUNS) (range_with_len 0 (length terms + 1))

-- the text is the one that says this, and it is a label's
abbrev pub is_said_by : List ℕ → LabelTerms → Bool
is_said_by text said = bytes_eq (letter_s ∷ decimal said.level ++ terms_text said.terms) text && nat_lt said.level 256 && are_terms said.terms && is_roomy said.terms

-- a text's level and terms, if what they say is written so
unfoldable pub terms_of_text : List ℕ → Option LabelTerms
terms_of_text text = let said = said_by_parts (slice_split (λ c. c == colon || c == comma) text) in if is_said_by text said then Some said else None

-- the label of a whole text, as `read_label` reads it
unfoldable pub label_of_text : List ℕ → Option Label
label_of_text text = option_map label_of_terms (terms_of_text text)

-- the same as `Dominates`: a's level is at least b's, and each category of b is one of a
abbrev pub dominates : Label → Label → Bool
dominates a b = nat_le b.level a.level && list_all (has a.cats) b.cats

-- the same of labels by their terms, which computes without the sets
abbrev pub dominates_by_terms : LabelTerms → LabelTerms → Bool
dominates_by_terms a b = nat_le b.level a.level && list_all (λ term. list_all (term_has a.terms) (range_with_len term.0 (term.1 + 1 - term.0))) b.terms

-- the range of one label alone
abbrev pub lone_range : Label → LabelRange
lone_range label = record { low = label; high = label }

-- the high label has to dominate the low one
abbrev pub range_of_terms : LabelTerms → LabelTerms → Option LabelRange
range_of_terms low high = if dominates_by_terms high low then Some (record { low = label_of_terms low; high = label_of_terms high }) else None

-- one label, which is both ends, or two
abbrev pub range_of_parts : List (List ℕ) → Option LabelRange
range_of_parts (one ∷ []) = option_map lone_range (label_of_text one)
range_of_parts (low ∷ high ∷ []) = option_and_then (λ l. option_and_then (range_of_terms l) (terms_of_text high)) (terms_of_text low)
range_of_parts parts = None

-- the range of a whole text, as `read_range` reads it
unfoldable pub range_of_text : List ℕ → Option LabelRange
range_of_text text = range_of_parts (slice_split (λ c. c == hyphen) text)
