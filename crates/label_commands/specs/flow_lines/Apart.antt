-- The rule on the names of flows.
use Rattle.std.specs.Prelude.{◌≡◌, ◌≢◌, ℕ, false, List, All, AllPairs}
use Rattle.label_commands.specs.declared.flow_lines.flow.FlowLine.{FlowLine}
use Rattle.label_commands.specs.flow_lines.Flow.{inputs_of, outputs_of, is_among}

-- no name is an output twice, both an input and an output, or an output and the script's own name
pub record AreApart (own : List ℕ) (flows : List FlowLine) : Type 0 where
  pub outputs : AllPairs (λ a b. a ≢ b) (outputs_of flows)
  pub inputs : All (λ output. is_among (inputs_of flows) output ≡ false) (outputs_of flows)
  pub script : All (λ output. output ≢ own) (outputs_of flows)
