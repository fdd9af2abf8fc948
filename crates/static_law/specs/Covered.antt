-- What may travel from one hop to the next without a label: there it gets a static label that means at least as much.
use Rattle.std.specs.Prelude.{◌≡◌, ◌⊎◌, ℕ, false, List, [], ◌∷◌, All, Some}
use Rattle.mls_range.specs.Range.{LabelRange}
use Rattle.domain_map.specs.declared.static_map.StaticEntry.{StaticEntry}
use Rattle.domain_map.specs.Statics.{entries_for}
use Rattle.label_commands.specs.declared.flow_lines.hop.Hop.{Hop}
use Rattle.label_commands.specs.declared.flow_lines.hop.Hop.TheVariants.{Send, Forward, Receive}
use Rattle.label_commands.specs.node_readings.Reading.{NamedMeanings}
use Rattle.label_commands.specs.node_readings.Meaning.{Meaning, meaning_of, MeansDominates}
use Rattle.node_tables.specs.Tables.{Ranges, TableState, find_range_of}
use Rattle.label_flow.specs.node_agreement.Agreement.{Agree}
use Rattle.shared_tables.specs.Plan.{PlanState}
use Rattle.label_flow.specs.flow_access.Labels.{hop_tables, reading_at}

-- the interface at which a hop puts packets out; one that receives has no other
abbrev pub interface_out : Hop → List ℕ
interface_out (Send node domain interface label) = interface
interface_out (Forward node from to domain) = to
interface_out (Receive node interface) = interface

-- the interface at which it takes them in; one that sends has no other
abbrev pub interface_in : Hop → List ℕ
interface_in (Send node domain interface label) = interface
interface_in (Forward node from to domain) = from
interface_in (Receive node interface) = interface

-- the high label of an entry means at least so much
abbrev pub MeansNoLess : NamedMeanings → Meaning → StaticEntry → Type 0
MeansNoLess named least entry = MeansDominates (meaning_of named entry.high) least

-- there is a range, the interface's own or else the default one, and no entry means less than its high end
pub record AreNoLess (ranges : Ranges) (out : List ℕ) (left_named : NamedMeanings) (entries : List (ℕ × StaticEntry)) (right_named : NamedMeanings) : Type 0 where
  pub range : LabelRange
  pub found : find_range_of ranges out ≡ Some range
  pub above : All (λ e. MeansNoLess right_named (meaning_of left_named range.high) e.1) entries

-- The nodes agree. Besides, the right one doesn't accept what has no label, or no static entry counts for the interface at which it comes in,
-- or each that counts there means no less than the range of the interface at which it went out.
pub record Covered (left : TableState) (out : List ℕ) (right : TableState) (into : List ℕ) (left_named right_named : NamedMeanings) : Type 0 where
  pub agree : Agree left right left_named right_named
  pub unlabelled : (right.accepts ≡ false) ⊎ ((entries_for right.statics into ≡ []) ⊎ AreNoLess left.ranges out left_named (entries_for right.statics into) right_named)

-- so it is between two hops, each under its version
abbrev pub CoveredBetween : PlanState → List NamedMeanings → Hop → ℕ → Hop → ℕ → Type 0
CoveredBetween plan readings left v right w =
    Covered (hop_tables plan v left) (interface_out left) (hop_tables plan w right) (interface_in right) (reading_at readings left) (reading_at readings right)

-- and between every two neighbouring hops that judged
abbrev pub NeighboursCovered : PlanState → List NamedMeanings → List Hop → List ℕ → Type 0
NeighboursCovered plan readings [] versions = Unit {0}
NeighboursCovered plan readings (hop ∷ []) versions = Unit {0}
NeighboursCovered plan readings (left ∷ right ∷ hops) [] = Unit {0}
NeighboursCovered plan readings (left ∷ right ∷ hops) (v ∷ []) = Unit {0}
NeighboursCovered plan readings (left ∷ right ∷ hops) (v ∷ w ∷ versions) = CoveredBetween plan readings left v right w × NeighboursCovered plan readings (right ∷ hops) (w ∷ versions)
