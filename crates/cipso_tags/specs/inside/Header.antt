-- The first four octets of a tag, and bodies of a given length.
use Rattle.std.specs.Prelude.{ℕ, ◌≡◌, ◌*◌, ◌%◌, ◌≤◌, List, ◌∷◌, [], ◌++◌, length, drop}
use Rattle.mls_label.specs.declared.label.Tag.{Tag}
use Rattle.mls_label.specs.declared.label.Tag.TheVariants.{One, Two, Five}
use Rattle.cipso_tags.specs.declared.bounds.TheConstants.{HEADER_OCTETS, MOST_OCTETS, MOST_CATEGORIES, MOST_RANGES}
use Rattle.cipso_tags.specs.declared.header.Header.{Header}
use Rattle.cipso_tags.specs.Tag.{tag_type, HasLength}

abbrev pub header_of : Tag → ℕ → ℕ → List ℕ
header_of tag length level = tag_type tag ∷ length ∷ 0 ∷ level ∷ []

-- the lengths that bodies of the types have
abbrev pub IsSize : Tag → ℕ → Type 0
IsSize One size = size ≤ MOST_OCTETS
IsSize Two size = (size ≤ 2 * MOST_CATEGORIES) × (size % 2 ≡ 0)
IsSize Five size = (size ≤ 4 * MOST_RANGES) × (size % 2 ≡ 0)

-- the octets begin with this header, and there is a tag of its type and length
pub record BeginsWith (bytes : List ℕ) (header : Header) : Type 0 where
  pub is : bytes ≡ header_of header.tag header.length header.level ++ drop HEADER_OCTETS bytes
  pub long : HEADER_OCTETS ≤ length bytes
  pub there : HasLength header.tag header.length

-- the members of n octets
pub record IsSized (n : ℕ) (G : List ℕ → List ℕ → Type 0) (body cats : List ℕ) : Type 0 where
  pub long : length body ≡ n
  pub is : G body cats
