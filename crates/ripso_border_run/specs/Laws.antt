-- A flow that begins behind a border.
use Rattle.std.specs.Prelude.{◌≡◌, ℕ, false, List, ◌∷◌, Some, Ok}
use Rattle.mls_label.specs.declared.label.Label.{Label}
use Rattle.mls_label.specs.declared.label.Proto.TheVariants.{Cipso}
use Rattle.doi_table.specs.declared.plan.DoiPlan.{DoiPlan}
use Rattle.doi_table.specs.Table.{definition_of}
use Rattle.doi_table.specs.Translation.{local_label}
use Rattle.label_commands.specs.declared.flow_lines.hop.Hop.{Hop}
use Rattle.label_commands.specs.flow_lines.Hop.{is_send}
use Rattle.node_tables.specs.Tables.{TableState}
use Rattle.shared_tables.specs.Plan.{PlanState}
use Rattle.label_flow.specs.flow_access.Labels.{hop_tables}
use Rattle.ripso_border.specs.Border.{border_label}

-- these tables pass all numbers of the DOI, with the tags of the border's definition
pub record PassesAll (plan : DoiPlan) (doi : ℕ) (t : TableState) : Type 0 where
  pub here : DoiPlan
  pub defined : definition_of t.definitions Cipso doi ≡ Some here
  pub passes : here.trans ≡ false
  pub tags : here.tags ≡ plan.tags

-- a flow's first hop takes packets in, at a node with such tables
abbrev pub BeginsBehind : DoiPlan → ℕ → PlanState → List Hop → List ℕ → Type 0
BeginsBehind plan doi tables (hop ∷ hops) (version ∷ versions) = (is_send hop ≡ false) × PassesAll plan doi (hop_tables tables version hop)
BeginsBehind plan doi tables hops versions = ⊥

-- this is the local label of what option 130 of these octets says
pub record SaysOrigin (plan : DoiPlan) (octets : List ℕ) (origin : Label) : Type 0 where
  pub wire : Label
  pub came : border_label octets ≡ Some wire
  pub translates : local_label plan wire ≡ Ok origin
