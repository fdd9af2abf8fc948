-- What stands behind a tag's level, and the categories that it carries (FIPS 188; CIPSO draft 2.2, section 3.4).
use Rattle.std.specs.Prelude.{ℕ, ◌≡◌, ◌*◌, ◌<◌, ◌≤◌, Bool, false, ◌||◌, List, [], ◌∷◌, length}
use Rattle.std.specs.List.{flat_map}
use Rattle.std.specs.Int.{w16, to_be_bytes}
use Rattle.mls_label.specs.octet_grammar.Octets.{IsOctets}
use Rattle.mls_label.specs.declared.label.Tag.{Tag}
use Rattle.mls_label.specs.declared.label.Tag.TheVariants.{One, Two, Five}
use Rattle.mls_label.specs.Cats.{IsCats, cats_where, is_within}
use Rattle.mls_label.specs.category_bitmap.Bitmap.{bitmap_cats}
use Rattle.cipso_tags.specs.declared.bounds.TheConstants.{MOST_OCTETS, MOST_CATEGORIES, MOST_RANGES}

-- numbers of two octets each, in network order
abbrev pub words : List ℕ → List ℕ
words numbers = flat_map (to_be_bytes w16) numbers

-- up to 30 octets of a bitmap
pub record IsBitmap (body cats : List ℕ) : Type 0 where
  pub room : length body ≤ MOST_OCTETS
  pub octets : IsOctets body
  pub carries : cats ≡ bitmap_cats body

-- at most so many numbers of two octets each, in an order of their own, and the categories that they stand for
pub record IsNumbers (most : ℕ) (IsInOrder : List ℕ → Type 0) (cats_of : List ℕ → List ℕ) (body cats : List ℕ) : Type 0 where
  pub numbers : List ℕ
  pub is : body ≡ words numbers
  pub room : length numbers ≤ most
  pub ordered : IsInOrder numbers
  pub carries : cats ≡ cats_of numbers

-- tops and bottoms in turn: each bottom is at most its top, and each range lies below the one before it
abbrev pub Descends : ℕ → List ℕ → Type 0
Descends upper [] = Unit {0}
Descends upper (top ∷ []) = top < upper
Descends upper (top ∷ bottom ∷ numbers) = (top < upper) × (bottom ≤ top) × Descends bottom numbers

-- c is in one of the ranges, both ends included; a last bottom that is left out is 0
abbrev pub covers : List ℕ → ℕ → Bool
covers [] c = false
covers (top ∷ []) c = is_within 0 top c
covers (top ∷ bottom ∷ numbers) c = is_within bottom top c || covers numbers c

-- type 1, a bitmap; type 2, up to 15 categories, strictly ascending; type 5, up to 7 ranges, from the highest down
abbrev pub IsBody : Tag → List ℕ → List ℕ → Type 0
IsBody One body cats = IsBitmap body cats
IsBody Two body cats = IsNumbers MOST_CATEGORIES IsCats (λ numbers. numbers) body cats
IsBody Five body cats = IsNumbers (2 * MOST_RANGES) (Descends 65535) (λ numbers. cats_where (covers numbers)) body cats
