-- The one written form of a label in each tag, and the labels that a tag can express.
use Rattle.std.specs.Prelude.{ℕ, ◌+◌, ◌==◌, Bool, IsTrue, if◌then◌else◌, nat_le, List, [], ◌∷◌, ◌++◌, length, Option}
use Rattle.std.specs.List.{list_all, find}
use Rattle.mls_label.specs.declared.label.Tag.{Tag}
use Rattle.mls_label.specs.declared.label.Tag.TheVariants.{One, Two, Five}
use Rattle.mls_label.specs.declared.label.Label.{Label}
use Rattle.mls_label.specs.Runs.{runs_of}
use Rattle.mls_label.specs.category_bitmap.Bitmap.{octets_needed, bitmap_of}
use Rattle.cipso_tags.specs.declared.bounds.TheConstants.{HEADER_OCTETS, HIGHEST_IN_BITMAP, MOST_CATEGORIES, MOST_RANGES}
use Rattle.cipso_tags.specs.Body.{words}
use Rattle.cipso_tags.specs.Tag.{tag_type}

-- no category above 239, the last of 30 octets; at most 15 categories; at most 7 maximal runs
abbrev pub fits : Tag → Label → Bool
fits One label = list_all (λ c. nat_le c HIGHEST_IN_BITMAP) label.cats
fits Two label = nat_le (length label.cats) MOST_CATEGORIES
fits Five label = nat_le (length (runs_of label.cats)) MOST_RANGES

abbrev pub Fits : Tag → Label → Type 0
Fits tag label = IsTrue (fits tag label)

-- top and bottom of each run, from the highest run down
abbrev pub ends_down : List (ℕ × ℕ) → List ℕ
ends_down [] = []
ends_down (run ∷ runs) = ends_down runs ++ run.1 ∷ run.0 ∷ []

-- the same, but the last bottom is left out where it is 0
abbrev pub range_numbers : List (ℕ × ℕ) → List ℕ
range_numbers [] = []
range_numbers (lowest ∷ runs) = ends_down runs ++ lowest.1 ∷ (if lowest.0 == 0 then [] else lowest.0 ∷ [])

-- a bitmap without trailing zero octets; all categories; the maximal runs as ranges
abbrev pub body_text : Tag → List ℕ → List ℕ
body_text One cats = bitmap_of cats (octets_needed cats)
body_text Two cats = words cats
body_text Five cats = words (range_numbers (runs_of cats))

-- type, length, an octet of 0, level, and the categories
abbrev pub tag_text : Tag → Label → List ℕ
tag_text tag label = tag_type tag ∷ (HEADER_OCTETS + length (body_text tag label.cats)) ∷ 0 ∷ label.level ∷ body_text tag label.cats

-- the first of the tags that can express the label
abbrev pub first_tag_of : List Tag → Label → Option Tag
first_tag_of tags label = find (λ tag. fits tag label) tags
