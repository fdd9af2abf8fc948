-- The names of flows as sets, for a quick look-up.
use Rattle.std.specs.Prelude.{ℕ, ◌≡◌, List}
use Rattle.label_commands.specs.declared.flow_lines.flow.FlowLine.{FlowLine}
use Rattle.label_commands.specs.flow_lines.Flow.{inputs_of, outputs_of, is_among}

-- the sets have just the names of the flows
pub record HaveNames (flows : List FlowLine) (inputs outputs : List (List ℕ)) : Type 0 where
  pub inputs_are : (name : List ℕ) → is_among inputs name ≡ is_among (inputs_of flows) name
  pub outputs_are : (name : List ℕ) → is_among outputs name ≡ is_among (outputs_of flows) name
