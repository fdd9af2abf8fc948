-- What every script keeps.
use Rattle.std.specs.Prelude.{ℕ, ◌≡◌, ◌-◌, ◌<◌, ◌≤◌, List, length, All, Some}
use Rattle.std.specs.List.{slice_get}
use Rattle.label_commands.specs.flow_lines.Hop.{IsRoute, node_of}
use Rattle.label_commands.specs.flow_lines.Apart.{AreApart}
use Rattle.script_lines.specs.declared.stop.LimitName.TheVariants.{Lines, Nodes, Flows}
use Rattle.label_commands.specs.declared.script.Script.{Script}
use Rattle.label_commands.specs.declared.stop.ScriptFault.{ScriptFault}
use Rattle.label_commands.specs.Line.{limit_of}
use Rattle.label_commands.specs.Script.{before, after}

-- It names few nodes and has a reading of each, its steps and hops are of them, and the steps above its flows don't get fewer.
pub record IsSoundScript (own : List ℕ) (script : Script) : Type 0 where
  pub nodes : length script.nodes ≤ limit_of Nodes
  pub steps : length script.steps ≤ limit_of Lines
  pub flows : length script.flows ≤ limit_of Flows
  pub readings : length script.readings ≡ length script.nodes
  pub step_nodes : All (λ step. step.node < length script.nodes) script.steps
  pub hop_nodes : All (λ flow. All (λ hop. node_of hop < length script.nodes) flow.hops) script.flows
  pub routes : All (λ flow. IsRoute flow.hops) script.flows
  pub order : (flow : ℕ) → (before script flow ≤ after script flow) × (after script flow ≤ length script.steps)
  pub apart : AreApart own script.flows

-- the line is one of the lines, counted from 1, and the octet stands in it or at its end
pub record StandsInText (lines : List (List ℕ)) (fault : ScriptFault) : Type 0 where
  pub line : List ℕ
  pub number : 1 ≤ fault.line
  pub is : slice_get lines (fault.line - 1) ≡ Some line
  pub octet : fault.octet ≤ length line
