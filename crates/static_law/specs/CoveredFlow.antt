-- A flow of a script whose links are covered, under versions that a packet of it can have.
use Rattle.std.specs.Prelude.{◌≡◌, ◌⊎◌, ℕ, List, [], ◌++◌, Option, Some}
use Rattle.label_commands.specs.declared.flow_lines.flow.FlowLine.{FlowLine}
use Rattle.label_commands.specs.declared.script.Script.{Script}
use Rattle.label_flow.specs.flow_access.Valid.{plan_of}
use Rattle.call_report.specs.Lines.Parts.{line_of}
use Rattle.call_report.specs.script_input.Flow.{flow_numbered, versions_for, AreVersionsOf}
use Rattle.static_law.specs.Covered.{NeighboursCovered}

-- The flow of this number, under the versions that are named or else under those of the commands above it: every two neighbouring hops are covered.
pub record IsCoveredFlow (script : Script) (number : ℕ) (named : Option (List ℕ)) : Type 0 where
  pub flow : FlowLine
  pub is : flow_numbered script number ≡ Some flow
  pub versions : AreVersionsOf script number flow (versions_for flow named)
  pub covered : NeighboursCovered (plan_of script) script.readings flow.hops (versions_for flow named)

-- the text ends in this line: in front of it stands nothing, or other lines
pub record IsLastLine (line text : List ℕ) : Type 0 where
  pub front : List ℕ
  pub is : text ≡ front ++ line_of line
  pub begins : (front ≡ []) ⊎ ((lines : List ℕ) × (front ≡ line_of lines))
