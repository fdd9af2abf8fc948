-- `agree`: whether every two neighbouring hops of a flow give the numbers on the wire one meaning, under versions of the tables that a packet of
-- the flow can have; or why the text is no script, or has no such flow or versions.
use Rattle.std.specs.Prelude.{ℕ, ◌+◌, List, [], ◌∷◌, ◌++◌, Option, Some, None, is_none}
use Rattle.std.specs.List.{list_all}
use Rattle.label_commands.specs.declared.flow_lines.hop.Hop.{Hop}
use Rattle.label_commands.specs.node_readings.Reading.{NamedMeanings}
use Rattle.label_flow.specs.declared.node_agreement.disagree.Disagree.{Disagree}
use Rattle.label_flow.specs.node_agreement.Agreement.{Agree}
use Rattle.label_flow.specs.node_agreement.First.{IsFirst}
use Rattle.shared_tables.specs.Plan.{PlanState}
use Rattle.call_report.specs.Lines.Agreement.{hops_line, agreement_line}
use Rattle.call_report.specs.Says.{Says}
use Rattle.call_report.specs.script_input.Answer.{HopsAnswer}
use Rattle.call_report.specs.script_input.Neighbours.{HopState, EachTwo}
use Rattle.call_report.specs.script_input.ScriptFile.{script_says}

-- what two hops come to: they agree, or this is their first difference
abbrev pub IsFound : HopState → HopState → Option Disagree → Type 0
IsFound left right None = Agree left.tables right.tables left.named right.named
IsFound left right (Some d) = IsFirst left.tables right.tables left.named right.named d

-- what every two neighbouring hops come to, each with the tables of its own version and the reading of its own node
abbrev pub AreFound : PlanState → List NamedMeanings → List Hop → List ℕ → List (Option Disagree) → Type 0
AreFound plan readings hops versions found = EachTwo IsFound plan readings hops versions found

-- a line for each two, the left one numbered from here on
abbrev pub hops_text : ℕ → List (Option Disagree) → List ℕ
hops_text left [] = []
hops_text left (found ∷ others) = hops_line left found ++ hops_text (left + 1) others

-- and behind them whether all agree
abbrev pub agree_text : List (Option Disagree) → List ℕ
agree_text found = hops_text 1 found ++ agreement_line (list_all is_none found)

-- it reads a script, and answers it on the hops of one flow
abbrev pub agree_says : List ℕ → ℕ → Option (List ℕ) → Says
agree_says file number named = script_says (HopsAnswer IsFound agree_text number named) file
