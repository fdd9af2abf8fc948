-- Whether two nodes give each number on the wire one meaning.
use Rattle.std.specs.Prelude.{◌≡◌, ℕ, ◌<◌, Bool, Some}
use Rattle.mls_label.specs.declared.label.Proto.{Proto}
use Rattle.label_commands.specs.node_readings.Reading.{NamedMeanings}
use Rattle.node_tables.specs.Tables.{TableState}
use Rattle.label_flow.specs.node_agreement.Meanings.{meaning_at, carried_below}

-- under each protocol and DOI, each level and each category below so many that both nodes know means the same to both
abbrev pub AgreeBelow : (Proto → Bool → ℕ) → TableState → TableState → NamedMeanings → NamedMeanings → Type 0
AgreeBelow below left right left_named right_named =
    (proto : Proto) (doi : ℕ) (level : Bool) (wire a b : ℕ) → wire < below proto level
    → meaning_at left left_named proto doi level wire ≡ Some a → meaning_at right right_named proto doi level wire ≡ Some b → a ≡ b

-- the nodes agree on all numbers that the protocols can carry
abbrev pub Agree : TableState → TableState → NamedMeanings → NamedMeanings → Type 0
Agree = AgreeBelow carried_below
