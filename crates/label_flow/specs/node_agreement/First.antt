-- The first number on the wire that two nodes give different meanings.
use Rattle.std.specs.Prelude.{◌≡◌, ℕ, ◌<◌, Bool, true, false, ◌&&◌, ◌||◌, nat_eq, nat_lt, Some}
use Rattle.mls_label.specs.declared.label.Proto.{Proto}
use Rattle.mls_label.specs.declared.label.Proto.TheVariants.{Cipso, Calipso}
use Rattle.label_commands.specs.node_readings.Reading.{NamedMeanings}
use Rattle.node_tables.specs.Tables.{TableState}
use Rattle.label_flow.specs.declared.node_agreement.disagree.Disagree.{Disagree}
use Rattle.label_flow.specs.node_agreement.Meanings.{meaning_at, carried_below}

-- a number below so many has two meanings, which are told
pub record IsDifferenceBelow (below : Proto → Bool → ℕ) (left right : TableState) (left_named right_named : NamedMeanings) (d : Disagree) : Type 0 where
  pub carried : d.wire < below d.proto d.level
  pub left_means : meaning_at left left_named d.proto d.doi d.level d.wire ≡ Some d.left
  pub right_means : meaning_at right right_named d.proto d.doi d.level d.wire ≡ Some d.right
  pub differ : d.left ≡ d.right → ⊥

-- CIPSO stands before CALIPSO
abbrev pub place_of_proto : Proto → ℕ
place_of_proto Cipso = 0
place_of_proto Calipso = 1

-- levels stand before categories
abbrev pub place_of_kind : Bool → ℕ
place_of_kind true = 0
place_of_kind false = 1

-- the first number is lower, or it is the same and the rest is lower
abbrev pub is_lower : ℕ → ℕ → Bool → Bool
is_lower a b rest = nat_lt a b || (nat_eq a b && rest)

-- d stands before e: by the protocol, then the DOI, then levels before categories, then the number on the wire
abbrev pub is_before : Disagree → Disagree → Bool
is_before d e =
    is_lower (place_of_proto d.proto) (place_of_proto e.proto) (is_lower d.doi e.doi (is_lower (place_of_kind d.level) (place_of_kind e.level) (nat_lt d.wire e.wire)))

-- a difference, and no other stands before it
pub record IsFirstBelow (below : Proto → Bool → ℕ) (left right : TableState) (left_named right_named : NamedMeanings) (d : Disagree) : Type 0 where
  pub difference : IsDifferenceBelow below left right left_named right_named d
  pub first : (e : Disagree) → IsDifferenceBelow below left right left_named right_named e → is_before e d ≡ false

-- a number that the protocols can carry has two meanings
abbrev pub IsDifference : TableState → TableState → NamedMeanings → NamedMeanings → Disagree → Type 0
IsDifference = IsDifferenceBelow carried_below

-- the first of these
abbrev pub IsFirst : TableState → TableState → NamedMeanings → NamedMeanings → Disagree → Type 0
IsFirst = IsFirstBelow carried_below
