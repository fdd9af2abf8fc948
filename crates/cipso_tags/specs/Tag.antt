-- Tags of a CIPSO option: the set of whole octet strings that are one, each with its label (FIPS 188; CIPSO draft 2.2,
-- section 3.4).
use Rattle.std.specs.Prelude.{ℕ, ◌≡◌, ◌+◌, ◌<◌, List, ◌∷◌, length}
use Rattle.mls_label.specs.declared.label.Tag.{Tag}
use Rattle.mls_label.specs.declared.label.Tag.TheVariants.{One, Two, Five}
use Rattle.mls_label.specs.declared.label.Label.{Label}
use Rattle.cipso_tags.specs.declared.bounds.TheConstants.{HEADER_OCTETS}
use Rattle.cipso_tags.specs.Body.{IsBody}

-- the number of a tag's type
abbrev pub tag_type : Tag → ℕ
tag_type One = 1
tag_type Two = 2
tag_type Five = 5

-- type, length of the whole tag, alignment octet 0, level, and the body with the label's categories
pub record IsTag (bytes : List ℕ) (value : Tag × Label) : Type 0 where
  pub body : List ℕ
  pub is : bytes ≡ tag_type value.0 ∷ (HEADER_OCTETS + length body) ∷ 0 ∷ value.1.level ∷ body
  pub level : value.1.level < 256
  pub carries : IsBody value.0 body value.1.cats

-- some tag of this type has n octets
abbrev pub HasLength : Tag → ℕ → Type 0
HasLength tag n = (bytes : List ℕ) × (label : Label) × IsTag bytes (tag, label) × (length bytes ≡ n)
