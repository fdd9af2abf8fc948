-- Where a flow stands in its script, and what the call that carries it out needs of that.
use Rattle.std.specs.Prelude.{◌≢◌, ◌<◌, ◌≤◌, ◌^◌, List, length, All, Some}
use Rattle.label_commands.specs.flow_lines.Hop.{node_of}
use Rattle.node_tables.specs.Tables.{TableState}
use Rattle.node_tables.specs.Steps.{tables_after}
use Rattle.shared_tables.specs.Plan.{PlanState}
use Rattle.call_report.specs.Event.{packets_limit}
use Rattle.script_run.specs.declared.flow_run.end.FlowPlace.{FlowPlace}

-- A flow stands at a place of its script: each node that it or a step names is there, its steps stand between those above it and the script's end,
-- there are 1 to 16 workers, no more packets may be read than one call reads, and it doesn't write to what it reads.
pub record StandsAt (place : FlowPlace) : Type 0 where
  pub workers : (0 < place.workers) × (place.workers ≤ 16)
  pub nodes : length place.names.now ≤ 32
  pub steps : length place.steps.now < 2 ^ 32
  pub step_nodes : All (λ step. step.node < length place.names.now) place.steps.now
  pub hop_nodes : All (λ hop. node_of hop < length place.names.now) place.flow.now.hops
  pub beside : (place.flow.now.before ≤ place.upto) × (place.upto ≤ length place.steps.now)
  pub most : place.most ≤ packets_limit
  pub apart : place.flow.now.output ≢ Some place.flow.now.input

-- all steps of the script, on its nodes
abbrev pub plan_at : FlowPlace → PlanState
plan_at place = record { nodes = length place.names.now; steps = place.steps.now }

-- the nodes' tables in front of a flow
abbrev pub tables_at : FlowPlace → List TableState
tables_at place = tables_after (length place.names.now) place.steps.now place.flow.now.before
