-- What the numbers of every script keep that is read.
use Rattle.std.specs.Prelude.{All}
use Rattle.mls_label.specs.Label.{IsLabel}
use Rattle.label_commands.specs.node_readings.Reading.{IsReading}
use Rattle.script_lines.specs.declared.command.Step.{Step}
use Rattle.script_lines.specs.Bounded.{IsBounded}
use Rattle.label_commands.specs.declared.flow_lines.hop.Hop.{Hop}
use Rattle.label_commands.specs.declared.flow_lines.hop.Hop.TheVariants.{Send}
use Rattle.label_commands.specs.declared.flow_lines.flow.FlowLine.{FlowLine}
use Rattle.label_commands.specs.declared.script.Script.{Script}

-- a hop that sends names a label within the bounds
abbrev pub IsBoundedHop : Hop → Type 0
IsBoundedHop (Send node domain interface label) = IsLabel label
IsBoundedHop hop = Unit {0}

abbrev pub IsBoundedStep : Step → Type 0
IsBoundedStep step = IsBounded step.command

abbrev pub IsBoundedFlow : FlowLine → Type 0
IsBoundedFlow flow = All IsBoundedHop flow.hops

-- the numbers and labels of its commands and the labels of its flows are within their bounds, and each node's reading is one
pub record IsBoundedScript (script : Script) : Type 0 where
  pub steps : All IsBoundedStep script.steps
  pub flows : All IsBoundedFlow script.flows
  pub readings : All IsReading script.readings
