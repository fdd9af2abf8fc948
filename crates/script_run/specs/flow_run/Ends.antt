-- How one flow of a script ends, with what it has printed, made, and left as it was.
use Rattle.std.specs.Prelude.{ℕ, ◌≡◌, ◌≢◌, ◌≤◌, ◌⊎◌, ◌+◌, IsTrue, List, ◌++◌, length, take, Option, Some, None, Ok}
use Rattle.net_io.specs.Sink.{SinkState, WritesPrefix}
use Rattle.net_io.specs.Faults.{Rose, SameCounts}
use Rattle.label_commands.specs.declared.flow_lines.flow.FlowLine.{FlowLine}
use Rattle.shared_tables.specs.Plan.{PlanState}
use Rattle.label_flow.specs.Schedule.{AreLawful}
use Rattle.call_report.specs.Lines.Capture.{capture_line}
use Rattle.call_report.specs.Lines.Fixed.{packets_limit_line}
use Rattle.call_report.specs.Outside.{Outside, NoneFailed, NoWriteFailed}
use Rattle.call_report.specs.Output.{Output, IsBegun, IsMade}
use Rattle.call_report.specs.Printing.{HandsOn, Breaks}
use Rattle.script_run.specs.declared.flow_run.end.FlowPlace.{FlowPlace}
use Rattle.script_run.specs.declared.flow_run.end.FlowEnd.{FlowEnd}
use Rattle.script_run.specs.declared.flow_run.end.FlowEnd.TheVariants.{GoesOn, Broken, TooMany, Stopped}
use Rattle.script_run.specs.declared.flow_run.end.FlowStop.TheVariants as stop
use Rattle.script_run.specs.flow_run.Place.{plan_at}
use Rattle.script_run.specs.flow_run.Input.{flow_input, packets_in}
use Rattle.script_run.specs.flow_run.Run.{FlowRun, IsRun, is_judged, goes_on, run_text, run_end, run_output}

-- a text was handed on behind what waits, all of it but for what waits now
abbrev pub IsHandedOn : List ℕ → List ℕ → List ℕ → SinkState → SinkState → Type 0
IsHandedOn text waits waits' before after = HandsOn {T = Unit {0}} text waits waits' (Ok tt) before after

-- a text was handed on till memory ran out, and no write has failed
pub record IsCutOff (text waits : List ℕ) (before after : SinkState) : Type 0 where
  pub told : after.tells ≡ before.tells
  pub faults : after.faults ≡ before.faults
  pub prefix : IsTrue before.tells → WritesPrefix (waits ++ text) before.written after.written

-- what was printed of a flow
abbrev pub IsPrinted : List (List ℕ) → FlowRun → FlowEnd → List ℕ → List ℕ → SinkState → SinkState → Type 0
IsPrinted names run GoesOn waits waits' before after = IsHandedOn (run_text names run ++ run_end run) waits waits' before after
IsPrinted names run (Broken fault) waits waits' before after = IsHandedOn (run_text names run) waits waits' before after
IsPrinted names run TooMany waits waits' before after = IsHandedOn (run_text names run) waits waits' before after
IsPrinted names run (Stopped stop.Read) waits waits' before after = IsHandedOn (run_text names run) waits waits' before after
IsPrinted names run (Stopped stop.Create) waits waits' before after = IsHandedOn (run_text names run) waits waits' before after
IsPrinted names run (Stopped stop.Append) waits waits' before after = IsHandedOn (run_text names run) waits waits' before after
IsPrinted names run (Stopped stop.Print) waits waits' before after =
    (after.tells ≡ before.tells) × Rose before.faults after.faults × Breaks (waits ++ run_text names run) before after
IsPrinted names run (Stopped stop.OutOfMemory) waits waits' before after = IsCutOff (run_text names run) waits before after

-- where a flow stands that ends so: the next one comes; its capture ends there by this event; or it was stopped somewhere
abbrev pub IsEnd : FlowEnd → FlowRun → Type 0
IsEnd GoesOn run = IsTrue (goes_on run)
IsEnd (Broken fault) run = IsTrue (is_judged run) × (run.input.event ≡ Some (record { status = 5; line = capture_line run.number fault }))
IsEnd TooMany run = IsTrue (is_judged run) × (run.input.event ≡ Some (record { status = 7; line = packets_limit_line }))
IsEnd (Stopped why) run = Unit {0}

-- nothing stopped it
abbrev pub HasEnded : FlowEnd → Type 0
HasEnded (Stopped why) = ⊥
HasEnded end = Unit {0}

-- What it has made: some first octets of its output, all of them where nothing stopped it, and each other name holds what it held.
pub record HasMade (run : FlowRun) (end : FlowEnd) (before after : List ℕ → Option (List ℕ)) : Type 0 where
  pub begun : (output : Output) → run_output run ≡ Some output → IsBegun output before after
  pub made : HasEnded end → (output : Output) → run_output run ≡ Some output → IsMade output before after
  pub others : (name : List ℕ) → run.flow.output ≢ Some name → after name ≡ before name

-- No making has failed, and no read, unless one of the input after the packets that were judged.
pub record HasReadInput (flow : FlowLine) (before after : Outside) : Type 0 where
  pub reads : SameCounts before.folder.reads after.folder.reads ⊎ Rose (before.folder.reads flow.input) (after.folder.reads flow.input)
  pub creates : SameCounts before.folder.creates after.folder.creates

-- The numbers of faults: what stopped it has its number risen, and none has moved where nothing stopped it. Where a read or the making of the output
-- has failed, or memory ran out, no write and no append has; where a write has, no append.
abbrev pub IsCause : FlowLine → FlowEnd → Outside → Outside → Type 0
IsCause flow (Stopped stop.Read) before after = Rose (before.folder.reads flow.input) (after.folder.reads flow.input) × NoWriteFailed before after
IsCause flow (Stopped stop.Create) before after =
    (name : List ℕ) × (flow.output ≡ Some name) × Rose (before.folder.creates name) (after.folder.creates name) × NoWriteFailed before after
IsCause flow (Stopped stop.Append) before after =
    (name : List ℕ) × (flow.output ≡ Some name) × Rose (before.folder.appends name) (after.folder.appends name) × HasReadInput flow before after
IsCause flow (Stopped stop.Print) before after =
    Rose before.stream.faults after.stream.faults × SameCounts before.folder.appends after.folder.appends × HasReadInput flow before after
IsCause flow (Stopped stop.OutOfMemory) before after = NoWriteFailed before after × HasReadInput flow before after
IsCause flow end before after = NoneFailed before after

-- How a flow has run, where the folder tells what it holds: the flow of this number, of which so many packets may be read, with so many workers
pub record IsRunOf (plan : PlanState) (names : List (List ℕ)) (workers number most upto : ℕ) (flow : FlowLine) (before after : Outside) (waits waits' : List ℕ) (seen : List (List ℕ)) (end : FlowEnd) : Type 0 where
  pub run : FlowRun
  pub numbered : run.number ≡ number
  pub flow_is : run.flow ≡ flow
  pub input : run.input ≡ flow_input number most (before.folder.held flow.input)
  pub is : IsRun plan run seen
  pub lawful : AreLawful plan flow.hops workers flow.before upto (take (length seen) (packets_in run.input)) seen
  pub ends : IsEnd end run
  pub printed : IsPrinted names run end waits waits' before.stream after.stream
  pub made : HasMade run end before.folder.held after.folder.held

-- What one flow does. Its captures are in the folder, and its lines go through what waits for the stream.
pub record FlowEnds (plan : PlanState) (names : List (List ℕ)) (workers number most upto : ℕ) (flow : FlowLine) (before after : Outside) (waits waits' : List ℕ) (seen : List (List ℕ)) (end : FlowEnd) : Type 0 where
  pub runs : IsTrue before.folder.tells → IsRunOf plan names workers number most upto flow before after waits waits' seen end
  pub cause : IsCause flow end before after
  -- a flow without an output makes nothing and appends nothing
  pub still : flow.output ≡ None → SameCounts before.folder.creates after.folder.creates × SameCounts before.folder.appends after.folder.appends
  -- the number of the stream's faults doesn't fall
  pub faults : before.stream.faults ≤ after.stream.faults
  pub folder_told : after.folder.tells ≡ before.folder.tells
  pub stream_told : after.stream.tells ≡ before.stream.tells

-- the same of a flow at its place
abbrev pub FlowEndsAt : FlowPlace → Outside → Outside → List ℕ → List ℕ → List (List ℕ) → FlowEnd → Type 0
FlowEndsAt place before after waits waits' seen end = FlowEnds (plan_at place) place.names.now place.workers place.number place.most place.upto place.flow.now before after waits waits' seen end
