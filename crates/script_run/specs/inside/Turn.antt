-- How what comes behind a flow's packets ends: the replies to the steps between it and the next one, or the report's end.
use Rattle.std.specs.Prelude.{ℕ, ◌≡◌, ◌-◌, List, [], length, Result, Ok, Err}
use Rattle.net_io.specs.declared.fault.IoFault.{IoFault}
use Rattle.net_io.specs.Sink.{SinkState}
use Rattle.script_lines.specs.declared.command.Step.{Step}
use Rattle.label_commands.specs.declared.script.Script.{Script}
use Rattle.label_commands.specs.Script.{before}
use Rattle.node_tables.specs.Steps.{tables_after}
use Rattle.call_report.specs.Lines.Reply.{replies_text}
use Rattle.call_report.specs.Lines.Capture.{capture_line}
use Rattle.call_report.specs.Lines.Fixed.{packets_limit_line}
use Rattle.call_report.specs.declared.status.Status.{Status}
use Rattle.call_report.specs.declared.status.Status.TheVariants.{ReadFault, WriteFault, WrongCapture, OutOfMemory, Limit}
use Rattle.call_report.specs.Status.{write_status}
use Rattle.call_report.specs.Printing.{HandsOn, IsUnderWay, Printed}
use Rattle.script_run.specs.declared.flow_run.end.FlowPlace.{FlowPlace}
use Rattle.script_run.specs.declared.flow_run.end.FlowEnd.{FlowEnd}
use Rattle.script_run.specs.declared.flow_run.end.FlowEnd.TheVariants.{GoesOn, Broken, TooMany, Stopped}
use Rattle.script_run.specs.declared.flow_run.end.FlowStop.TheVariants as stop
use Rattle.script_run.specs.Report.{first_replies}
use Rattle.script_run.specs.declared.turn.Next.{Next}

-- the replies to the steps from one to another were handed on, and the next flow comes, on the tables after these steps; or a write of them was refused
abbrev pub HasAnswered : List (List ℕ) → List Step → ℕ → ℕ → List ℕ → SinkState → SinkState → Result Next Status → Type 0
HasAnswered names steps from upto waits a b (Ok next) =
    (next.network ≡ tables_after (length names) steps upto) × HandsOn {T = Unit {0}} (replies_text names steps from (upto - from)) waits next.report.waiting.items (Ok tt) a b
HasAnswered names steps from upto waits a b (Err status) =
    (fault : IoFault) × (still : List ℕ) × (status ≡ write_status fault) × HandsOn {T = Unit {0}} (replies_text names steps from (upto - from)) waits still (Err fault) a b

-- the report ends here, with this line behind what waits
abbrev pub HasPrinted : List ℕ → List ℕ → Status → SinkState → SinkState → Result Next Status → Type 0
HasPrinted waits last due a b (Ok next) = ⊥
HasPrinted waits last due a b (Err status) = Printed waits last due status a b

-- the same with this status, however the print ends
abbrev pub HasKept : List ℕ → Status → SinkState → SinkState → Result Next Status → Type 0
HasKept waits due a b (Ok next) = ⊥
HasKept waits due a b (Err status) = (ending : Status) × (status ≡ due) × Printed waits [] due ending a b

-- nothing more is printed
abbrev pub HasCeased : Status → SinkState → SinkState → Result Next Status → Type 0
HasCeased due a b (Ok next) = ⊥
HasCeased due a b (Err status) = (status ≡ due) × (b ≡ a)

-- by how the flow of this number has ended
abbrev pub IsTurnEnd : List (List ℕ) → List Step → ℕ → ℕ → ℕ → FlowEnd → List ℕ → SinkState → SinkState → Result Next Status → Type 0
IsTurnEnd names steps number from upto GoesOn waits a b result = HasAnswered names steps from upto waits a b result
IsTurnEnd names steps number from upto (Broken fault) waits a b result = HasPrinted waits (capture_line number fault) WrongCapture a b result
IsTurnEnd names steps number from upto TooMany waits a b result = HasPrinted waits packets_limit_line Limit a b result
IsTurnEnd names steps number from upto (Stopped stop.Read) waits a b result = HasPrinted waits [] ReadFault a b result
IsTurnEnd names steps number from upto (Stopped stop.Create) waits a b result = HasPrinted waits [] ReadFault a b result
IsTurnEnd names steps number from upto (Stopped stop.Append) waits a b result = HasKept waits WriteFault a b result
IsTurnEnd names steps number from upto (Stopped stop.Print) waits a b result = HasCeased WriteFault a b result
IsTurnEnd names steps number from upto (Stopped stop.OutOfMemory) waits a b result = HasCeased OutOfMemory a b result

-- by the flow's place
abbrev pub IsTurnEndAt : FlowPlace → FlowEnd → List ℕ → SinkState → SinkState → Result Next Status → Type 0
IsTurnEndAt place end waits a b result = IsTurnEnd place.names.now place.steps.now place.number place.flow.now.before place.upto end waits a b result

-- the replies to the steps above the first flow were handed on, and the first flow comes; or they were not all printed
abbrev pub HasFirst : Script → SinkState → SinkState → Result Next Status → Type 0
HasFirst script a b (Ok next) = (next.network ≡ tables_after (length script.nodes) script.steps (before script 0)) × IsUnderWay (first_replies script) next.report.waiting.items a b
HasFirst script a b (Err status) = Printed (first_replies script) [] OutOfMemory status a b
