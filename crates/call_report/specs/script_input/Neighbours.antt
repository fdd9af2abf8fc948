-- Neighbouring hops of a flow, each with the tables of its own version and the reading of its own node.
use Rattle.std.specs.Prelude.{ℕ, List, [], ◌∷◌}
use Rattle.label_commands.specs.declared.flow_lines.hop.Hop.{Hop}
use Rattle.label_commands.specs.flow_lines.Hop.{node_of}
use Rattle.label_commands.specs.node_readings.Reading.{NamedMeanings}
use Rattle.node_tables.specs.Tables.{TableState}
use Rattle.shared_tables.specs.Plan.{PlanState, network_after}
use Rattle.label_flow.specs.packet_walk.Walk.{tables_of}
use Rattle.label_flow.specs.flow_access.Labels.{reading_at}

-- a hop, with its node's tables and reading
pub record HopState : Type 0 where
  pub hop : Hop
  pub tables : TableState
  pub named : NamedMeanings

abbrev pub hop_with : Hop → TableState → NamedMeanings → HopState
hop_with hop tables named = record { hop = hop; tables = tables; named = named }

-- among these nodes
abbrev pub hop_in : List TableState → List NamedMeanings → Hop → HopState
hop_in network readings hop = hop_with hop (tables_of network (node_of hop)) (reading_at readings hop)

-- under this version of the tables
abbrev pub hop_under : PlanState → List NamedMeanings → ℕ → Hop → HopState
hop_under plan readings version hop = hop_in (network_after plan version) readings hop

-- what every two neighbouring hops come to, where this is found of two
abbrev pub EachTwo : {X : Type 0} → (HopState → HopState → X → Type 0) → PlanState → List NamedMeanings → List Hop → List ℕ → List X → Type 0
EachTwo finds plan readings (hop ∷ []) (v ∷ []) [] = Unit {0}
EachTwo finds plan readings (left ∷ right ∷ hops) (v ∷ w ∷ versions) (found ∷ others) =
    finds (hop_under plan readings v left) (hop_under plan readings w right) found × EachTwo finds plan readings (right ∷ hops) (w ∷ versions) others
EachTwo finds plan readings hops versions found = ⊥
