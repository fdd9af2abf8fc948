-- What a flow has done since a moment: the lines that it printed, what it appended to its output, what it keeps of both, and what has failed.
use Rattle.std.specs.Prelude.{ℕ, ◌≡◌, ◌≢◌, ◌≤◌, ◌⊎◌, ◌+◌, IsTrue, List, [], ◌∷◌, ◌++◌, length, drop, if◌then◌else◌, Option, Some, None, Result, Ok, Err}
use Rattle.net_io.specs.Depot.{DepotState}
use Rattle.net_io.specs.Sink.{SinkState}
use Rattle.net_io.specs.Faults.{Rose, SameCounts}
use Rattle.net_io.specs.declared.fault.IoFault.{IoFault}
use Rattle.net_io.specs.declared.fault.IoFault.TheVariants as io
use Rattle.label_commands.specs.declared.flow_lines.flow.FlowLine.{FlowLine}
use Rattle.pcap_frames.specs.declared.record.FrameHead.{FrameHead}
use Rattle.pcap_frames.specs.Record.{Frame}
use Rattle.captures.specs.Reader.{file_name_of, format_of}
use Rattle.captures.specs.Written.{file_frames}
use Rattle.label_flow.specs.Pair.{PairState}
use Rattle.label_flow.specs.Schedule.{versions_in}
use Rattle.call_report.specs.Event.{packets_limit}
use Rattle.call_report.specs.Outside.{Outside, NoWriteFailed}
use Rattle.call_report.specs.Printing.{Breaks, HandsOn}
use Rattle.script_run.specs.declared.flow_run.end.FlowPlace.{FlowPlace}
use Rattle.script_run.specs.declared.flow_run.end.FlowStop.{FlowStop}
use Rattle.script_run.specs.declared.flow_run.end.FlowStop.TheVariants as the_stop
use Rattle.script_run.specs.declared.flow_run.source.Source.{Source}
use Rattle.script_run.specs.flow_run.Run.{is_denied, passed_in, denied_in, walked_lines}
use Rattle.script_run.specs.flow_run.Ends.{IsHandedOn, IsCutOff}
use Rattle.script_run.specs.flow_run.inside.Output.{IsAppended, IsThere, HasAppended}
use Rattle.script_run.specs.declared.flow_run.source.Behind.TheVariants.{Failed}
use Rattle.script_run.specs.flow_run.inside.Source.{IsSame, ReadsMove, due_in, heads_left, file_of}

-- a flow at a moment: the folder and the stream, what waits for the stream and for the output, the versions that were kept, how many packets
-- passed and were denied, and the last stop
pub record Moment : Type 0 where
  pub folder : DepotState
  pub stream : SinkState
  pub lines : List ℕ
  pub octets : List ℕ
  pub seen : List (List ℕ)
  pub passed : ℕ
  pub denied : ℕ
  pub source : Source
  pub stop : Option FlowStop

abbrev pub stop_in : {T : Type 0} → Result T FlowStop → Option FlowStop
stop_in (Ok given) = None
stop_in (Err stop) = Some stop

-- where a flow's lines and octets go: the folder and the stream, and what waits for the stream and for the output
pub record Outlets : Type 0 where
  pub folder : DepotState
  pub stream : SinkState
  pub lines : List ℕ
  pub octets : List ℕ

abbrev pub outlets : DepotState → SinkState → List ℕ → List ℕ → Outlets
outlets folder stream lines octets = record { folder = folder; stream = stream; lines = lines; octets = octets }

abbrev pub outlets_at : Moment → Outlets
outlets_at moment = outlets moment.folder moment.stream moment.lines moment.octets

-- the stop where a write was refused
abbrev pub print_stop : IoFault → FlowStop
print_stop io.Failed = the_stop.Print
print_stop io.OutOfMemory = the_stop.OutOfMemory

-- A line was printed, and then octets added to an output; or the print has failed, and then nothing was added.
abbrev pub HasHanded : Option FlowStop → List ℕ → Option (List ℕ) → List ℕ → Outlets → Outlets → Type 0
HasHanded stop line output frame was now =
    (IsHandedOn line was.lines now.lines was.stream now.stream × HasAppended stop output frame was.octets now.octets was.folder now.folder)
    ⊎ ((fault : IoFault) × (stop ≡ Some (print_stop fault)) × HandsOn {T = Unit {0}} line was.lines now.lines (Err fault) was.stream now.stream
    × (now.folder ≡ was.folder) × (now.octets ≡ was.octets))

-- a text was printed up to this stop
abbrev pub IsPrintedTo : Option FlowStop → List ℕ → List ℕ → List ℕ → SinkState → SinkState → Type 0
IsPrintedTo None text waits waits' before after = IsHandedOn text waits waits' before after
IsPrintedTo (Some the_stop.Read) text waits waits' before after = IsHandedOn text waits waits' before after
IsPrintedTo (Some the_stop.Create) text waits waits' before after = IsHandedOn text waits waits' before after
IsPrintedTo (Some the_stop.Append) text waits waits' before after = IsHandedOn text waits waits' before after
IsPrintedTo (Some the_stop.Print) text waits waits' before after =
    (after.tells ≡ before.tells) × Rose before.faults after.faults × Breaks (waits ++ text) before after
IsPrintedTo (Some the_stop.OutOfMemory) text waits waits' before after = IsCutOff text waits before after

-- the frames that aren't denied, by the times of all
abbrev pub kept_by : List FrameHead → List PairState → List Frame
kept_by [] pairs = []
kept_by (head ∷ heads) [] = []
kept_by (head ∷ heads) (pair ∷ pairs) =
    if is_denied pair.walked.end then kept_by heads pairs else record { head = head; octets = pair.octets } ∷ kept_by heads pairs

-- the numbers of failed appends and prints: none has moved, unless it stopped for that, and where a print has failed no append has
abbrev pub IsMoved : FlowLine → Option FlowStop → Outside → Outside → Type 0
IsMoved flow None before after = NoWriteFailed before after
IsMoved flow (Some the_stop.Read) before after = NoWriteFailed before after
IsMoved flow (Some the_stop.Create) before after = ⊥
IsMoved flow (Some the_stop.Append) before after = (name : List ℕ) × (flow.output ≡ Some name) × Rose (before.folder.appends name) (after.folder.appends name)
IsMoved flow (Some the_stop.Print) before after = Rose before.stream.faults after.stream.faults × SameCounts before.folder.appends after.folder.appends
IsMoved flow (Some the_stop.OutOfMemory) before after = NoWriteFailed before after

abbrev pub outside_of : Moment → Outside
outside_of moment = record { folder = moment.folder; stream = moment.stream }

-- From a moment on, at which nothing was fetched or stopped, these pairs were accepted, in the flow of this number.
pub record HasTaken (number : ℕ) (names : List (List ℕ)) (flow : FlowLine) (was now : Moment) (pairs : List PairState) : Type 0 where
  pub folder_told : now.folder.tells ≡ was.folder.tells
  pub stream_told : now.stream.tells ≡ was.stream.tells
  pub lines : IsPrintedTo now.stop (walked_lines number (length was.seen + 1) names flow.hops pairs) was.lines now.lines was.stream now.stream
  pub seen : now.seen ≡ was.seen ++ versions_in pairs
  pub passed : now.passed ≡ was.passed + passed_in pairs
  pub denied : now.denied ≡ was.denied + denied_in pairs
  pub source : IsSame was.source now.source
  pub heads : IsTrue was.folder.tells → heads_left now.source (file_of was.folder was.source) ≡ drop (length pairs) (heads_left was.source (file_of was.folder was.source))
  pub output : IsTrue was.folder.tells → (name : List ℕ) → flow.output ≡ Some name
      → IsAppended now.stop (was.octets ++ file_frames (format_of was.source.reader) (kept_by (heads_left was.source (file_of was.folder was.source)) pairs)) now.octets (was.folder.held name) (now.folder.held name)
  pub others : IsTrue was.folder.tells → (name : List ℕ) → flow.output ≢ Some name → now.folder.held name ≡ was.folder.held name
  pub reads : ReadsMove now.source.behind flow.input was.folder.reads now.folder.reads
  pub failed : now.stop ≡ Some the_stop.Read → now.source.behind ≡ Some Failed
  pub creates : SameCounts was.folder.creates now.folder.creates
  pub still : flow.output ≡ None → SameCounts was.folder.appends now.folder.appends
  pub moved : IsMoved flow now.stop (outside_of was) (outside_of now)
  pub faults : was.stream.faults ≤ now.stream.faults

-- the same in a flow at its place
abbrev pub HasTakenAt : FlowPlace → Moment → Moment → List PairState → Type 0
HasTakenAt place was now pairs = HasTaken place.number place.names.now place.flow.now was now pairs

-- What is true of a flow at each moment, and what its calls need.
pub record IsGoing (flow : FlowLine) (now : Moment) : Type 0 where
  pub input : file_name_of now.source.reader ≡ flow.input
  pub apart : flow.output ≢ Some flow.input
  pub present : IsThere flow.output now.folder
  pub counts : now.passed + now.denied ≡ length now.seen
  -- no more packets were accepted or wait than were read, and no more may be read than one call reads
  pub accepted : length now.seen + due_in now.source + length now.source.heads.items ≤ now.source.read
  pub few : now.source.most ≤ packets_limit
