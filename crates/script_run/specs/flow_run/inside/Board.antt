-- The board of a flow.
use Rattle.std.specs.Prelude.{◌≡◌, List, length, take, All}
use Rattle.shared_tables.specs.Plan.{PlanState}
use Rattle.shared_tables.specs.Board.{PublisherState, ViewerState}
use Rattle.script_run.specs.declared.flow_run.end.FlowPlace.{FlowPlace}

-- the steps up to the next flow
abbrev pub plan_beside : FlowPlace → PlanState
plan_beside place = record { nodes = length place.names.now; steps = take place.upto place.steps.now }

-- A board is open for a flow, at the version in front of it: the steps that are still to be made are those beside the flow, and each worker has a viewer.
pub record IsOpenFor (place : FlowPlace) (publisher : PublisherState) (viewers : List ViewerState) : Type 0 where
  pub plan : publisher.plan ≡ plan_beside place
  pub version : publisher.version ≡ place.flow.now.before
  pub count : length viewers ≡ place.workers
  pub seats : All (λ viewer. viewer ≡ record { board = publisher.board; plan = plan_beside place; seen = place.flow.now.before }) viewers
