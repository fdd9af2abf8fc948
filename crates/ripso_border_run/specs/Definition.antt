-- What a DOI is defined as at the first node of a script, once all its commands were carried out.
use Rattle.std.specs.Prelude.{ℕ, List, length, slice_get, Option, option_and_then}
use Rattle.mls_label.specs.declared.label.Proto.TheVariants.{Cipso}
use Rattle.doi_table.specs.declared.plan.DoiPlan.{DoiPlan}
use Rattle.doi_table.specs.Table.{definition_of}
use Rattle.node_tables.specs.Tables.{TableState}
use Rattle.node_tables.specs.Steps.{tables_after}
use Rattle.label_commands.specs.declared.script.Script.{Script}

-- all its nodes' tables then
abbrev pub last_tables : Script → List TableState
last_tables script = tables_after (length script.nodes) script.steps (length script.steps)

-- the definition at the first of these nodes, if there is one
abbrev pub first_definition : List TableState → ℕ → Option DoiPlan
first_definition nodes doi = option_and_then (λ (t : TableState). definition_of t.definitions Cipso doi) (slice_get nodes 0)

abbrev pub border_definition : Script → ℕ → Option DoiPlan
border_definition script doi = first_definition (last_tables script) doi
