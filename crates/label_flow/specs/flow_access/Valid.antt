-- What the values keep that come from a script: every number is within its bounds.
use Rattle.std.specs.Prelude.{ℕ, List, length, All}
use Rattle.label_commands.specs.declared.flow_lines.hop.Hop.{Hop}
use Rattle.label_commands.specs.flow_lines.Hop.{AreOrdered}
use Rattle.label_commands.specs.node_readings.Reading.{NamedMeanings, IsReading}
use Rattle.node_tables.specs.Valid.{AreValid}
use Rattle.label_commands.specs.declared.script.Script.{Script}
use Rattle.label_commands.specs.Bounded.{IsBoundedHop}
use Rattle.shared_tables.specs.Plan.{PlanState}
use Rattle.label_flow.specs.flow_access.Labels.{hop_tables, reading_at}

-- all steps of a script, on its nodes
abbrev pub plan_of : Script → PlanState
plan_of script = record { nodes = length script.nodes; steps = script.steps }

-- hops in order, of which one that sends names a label, at nodes whose tables and readings are valid after any number of steps
pub record IsValidFlow (plan : PlanState) (readings : List NamedMeanings) (hops : List Hop) : Type 0 where
  pub tables : (version : ℕ) (hop : Hop) → AreValid (hop_tables plan version hop)
  pub named : (hop : Hop) → IsReading (reading_at readings hop)
  pub labels : All IsBoundedHop hops
  pub ordered : AreOrdered hops
