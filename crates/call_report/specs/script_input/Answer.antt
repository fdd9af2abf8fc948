-- The answer to a question on the neighbouring hops of one flow of a script, under versions that a packet of it can have.
use Rattle.std.specs.Prelude.{ℕ, ◌≡◌, List, [], Option, Some, None}
use Rattle.net_io.specs.Sink.{SinkState}
use Rattle.label_commands.specs.declared.flow_lines.flow.FlowLine.{FlowLine}
use Rattle.label_commands.specs.declared.script.Script.{Script}
use Rattle.label_flow.specs.flow_access.Valid.{plan_of}
use Rattle.call_report.specs.declared.status.Status.{Status}
use Rattle.call_report.specs.declared.status.Status.TheVariants.{OutOfMemory}
use Rattle.call_report.specs.Lines.Agreement.{no_flow_line, bad_versions_line}
use Rattle.call_report.specs.Printing.{Printed}
use Rattle.call_report.specs.Report.{Report, late_report}
use Rattle.call_report.specs.Status.{status_number}
use Rattle.call_report.specs.script_input.Flow.{flow_numbered, versions_for, AreVersionsOf}
use Rattle.call_report.specs.script_input.Neighbours.{HopState, EachTwo}

-- The status that is due over a script, and what is printed: it has no such flow, or a packet of the flow can't have such versions, or each two
-- neighbouring hops are compared, and the text of what they come to is printed.
pub data HopsAnswer {X : Type 0} (finds : HopState → HopState → X → Type 0) (text : List X → List ℕ) (number : ℕ) (named : Option (List ℕ)) (script : Script) : ℕ → Report → Type 0 where
  no_flow : flow_numbered script number ≡ None → HopsAnswer finds text number named script 2 (late_report [] no_flow_line)
  bad_versions : (flow : FlowLine) → flow_numbered script number ≡ Some flow → (AreVersionsOf script number flow (versions_for flow named) → ⊥)
      → HopsAnswer finds text number named script 2 (late_report [] bad_versions_line)
  compared : (flow : FlowLine) (found : List X) → flow_numbered script number ≡ Some flow → AreVersionsOf script number flow (versions_for flow named)
      → EachTwo finds (plan_of script) script.readings flow.hops (versions_for flow named) found → HopsAnswer finds text number named script 0 (late_report (text found) [])

-- The answer that is due was printed, or there was no memory for it and nothing was printed.
pub data IsAnswered (answers : ℕ → Report → Type 0) (before after : SinkState) : Status → Type 0 where
  without_memory : after ≡ before → IsAnswered answers before after OutOfMemory
  answered : (due status : Status) (body last : List ℕ) → answers (status_number due) (late_report body last)
      → Printed body last due status before after → IsAnswered answers before after status
