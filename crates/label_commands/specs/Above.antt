-- What the lines of a script say, from the first to some line.
use Rattle.std.specs.Prelude.{ℕ, Bool, List, [], ◌∷◌, ◌++◌, length, Option, Some, None, position, slice_set, unwrap_or, is_some}
use Rattle.std.specs.List.{slice_get}
use Rattle.std.specs.Str.{bytes_eq}
use Rattle.label_commands.specs.node_readings.Reading.{NamedMeanings}
use Rattle.script_lines.specs.declared.command.Command.{Command}
use Rattle.script_lines.specs.declared.command.Step.{Step}
use Rattle.label_commands.specs.declared.flow_lines.flow.FlowLine.{FlowLine}

-- the nodes in the order in which they come first, the number of the current one, the steps, each node's reading where a line gives one,
-- and the flows
pub record Above : Type 0 where
  pub nodes : List (List ℕ)
  pub current : Option ℕ
  pub steps : List Step
  pub readings : List (Option NamedMeanings)
  pub flows : List FlowLine

-- what stands above the first line
abbrev pub nothing_above : Above
nothing_above = record { nodes = []; current = None; steps = []; readings = []; flows = [] }

-- a node becomes the current one: it has this number already, or is new
abbrev pub at_number : Above → List ℕ → Option ℕ → Above
at_number above name (Some node) = record above { current = Some node }
at_number above name None = record above { nodes = above.nodes ++ name ∷ []; current = Some (length above.nodes); readings = above.readings ++ None ∷ [] }

-- the node of this name becomes the current one
abbrev pub at_node : Above → List ℕ → Above
at_node above name = at_number above name (position (bytes_eq name) above.nodes)

-- a command stands above
abbrev pub with_step : Above → ℕ → Command → Above
with_step above node command = record above { steps = above.steps ++ (record { node = node; command = command }) ∷ [] }

-- a line gave the node's reading
abbrev pub has_reading : Above → ℕ → Bool
has_reading above node = is_some (unwrap_or (slice_get above.readings node) None)

-- a reading stands above
abbrev pub with_reading : Above → ℕ → NamedMeanings → Above
with_reading above node named = record above { readings = slice_set above.readings node (Some named) }

-- a flow stands above
abbrev pub with_flow : Above → FlowLine → Above
with_flow above flow = record above { flows = above.flows ++ flow ∷ [] }
