-- How a flow begins, and how far it has come where it ends.
use Rattle.std.specs.Prelude.{ℕ, ◌≡◌, ◌≢◌, IsTrue, List, [], ◌++◌, length, Option, Some, None, Ok}
use Rattle.net_io.specs.Depot.{DepotState, SameHeld}
use Rattle.net_io.specs.Sink.{SinkState}
use Rattle.net_io.specs.Faults.{Rose, SameCounts}
use Rattle.label_commands.specs.declared.flow_lines.flow.FlowLine.{FlowLine}
use Rattle.captures.specs.declared.fault.FileFault.TheVariants as file
use Rattle.captures.specs.declared.fault.ReadStop.{ReadStop}
use Rattle.captures.specs.declared.fault.ReadStop.TheVariants as read_stop
use Rattle.captures.specs.Reader.{file_name_of, format_of, IsFileBegun}
use Rattle.captures.specs.declared.packet_in.PacketIn.{PacketIn}
use Rattle.shared_tables.specs.Plan.{PlanState}
use Rattle.label_flow.specs.Pair.{PairState}
use Rattle.label_flow.specs.Feed.{AreBegun, AreWhole}
use Rattle.label_flow.specs.Walked.{AreWalked}
use Rattle.label_flow.specs.Schedule.{AreLawful, versions_in}
use Rattle.call_report.specs.Lines.Flow.{flow_line, flow_end_line}
use Rattle.call_report.specs.Outside.{Outside}
use Rattle.script_run.specs.declared.flow_run.end.FlowPlace.{FlowPlace}
use Rattle.script_run.specs.declared.flow_run.end.FlowEnd.{FlowEnd}
use Rattle.script_run.specs.declared.flow_run.end.FlowEnd.TheVariants.{GoesOn, Broken, TooMany, Stopped}
use Rattle.script_run.specs.declared.flow_run.end.FlowStop.{FlowStop}
use Rattle.script_run.specs.declared.flow_run.run.Totals.{Totals}
use Rattle.script_run.specs.declared.flow_run.end.FlowStop.TheVariants as the_stop
use Rattle.script_run.specs.declared.flow_run.source.Source.{Source}
use Rattle.script_run.specs.declared.flow_run.source.Behind.{Behind}
use Rattle.script_run.specs.declared.flow_run.source.Behind.TheVariants as the_behind
use Rattle.script_run.specs.flow_run.Place.{plan_at}
use Rattle.script_run.specs.flow_run.Ends.{HasEnded, FlowEndsAt}
use Rattle.script_run.specs.flow_run.inside.Output.{HasHead, AreSent}
use Rattle.script_run.specs.flow_run.inside.Source.{IsFed, packets_left, file_of}
use Rattle.script_run.specs.flow_run.inside.Taken.{Moment, HasTaken}

-- nothing was read of this capture but its beginning
pub record IsFresh (input : List ℕ) (most : ℕ) (source : Source) : Type 0 where
  pub name : file_name_of source.reader ≡ input
  pub most_is : source.most ≡ most
  pub read : source.read ≡ 0
  pub behind : source.behind ≡ None
  pub heads : source.heads.items ≡ []
  pub fetched : source.fetched.items ≡ []
  pub at : source.at ≡ 0

-- the numbers of failed makings: none has moved, unless it stopped for that
abbrev pub CreatesMove : Option FlowStop → Option (List ℕ) → (List ℕ → ℕ) → (List ℕ → ℕ) → Type 0
CreatesMove None output old new = SameCounts old new
CreatesMove (Some the_stop.Read) output old new = ⊥
CreatesMove (Some the_stop.Create) output old new = (name : List ℕ) × (output ≡ Some name) × Rose (old name) (new name)
CreatesMove (Some the_stop.Append) output old new = ⊥
CreatesMove (Some the_stop.Print) output old new = ⊥
CreatesMove (Some the_stop.OutOfMemory) output old new = SameCounts old new

-- An output was made, if there is one; or it holds what it held.
pub record HasCreated (stop : Option FlowStop) (output : Option (List ℕ)) (old new : DepotState) : Type 0 where
  pub told : new.tells ≡ old.tells
  pub here : stop ≡ None → IsTrue old.tells → (name : List ℕ) → output ≡ Some name → new.held name ≡ Some []
  pub kept : stop ≢ None → IsTrue old.tells → (name : List ℕ) → new.held name ≡ old.held name
  pub others : IsTrue old.tells → (name : List ℕ) → output ≢ Some name → new.held name ≡ old.held name
  pub reads : SameCounts old.reads new.reads
  pub appends : SameCounts old.appends new.appends
  pub still : output ≡ None → SameCounts old.creates new.creates
  pub moved : CreatesMove stop output old.creates new.creates

-- The beginning of a flow's input was read.
pub record HasRead (flow : FlowLine) (most : ℕ) (before folder : DepotState) (source : Source) : Type 0 where
  pub told : folder.tells ≡ before.tells
  pub fresh : IsFresh flow.input most source
  pub begun : IsTrue before.tells → IsFileBegun (Ok source.reader) (before.held flow.input)
  pub kept : IsTrue before.tells → SameHeld before.held folder.held
  pub fed : IsFed folder source
  pub reads : SameCounts before.reads folder.reads
  pub creates : SameCounts before.creates folder.creates
  pub appends : SameCounts before.appends folder.appends

-- A flow begins: the beginning of its input was read, and its output made.
pub record IsStart (flow : FlowLine) (most : ℕ) (before folder : DepotState) (source : Source) (octets : List ℕ) : Type 0 where
  pub told : folder.tells ≡ before.tells
  pub fresh : IsFresh flow.input most source
  pub begun : IsTrue before.tells → IsFileBegun (Ok source.reader) (before.held flow.input)
  pub here : IsTrue before.tells → (name : List ℕ) → flow.output ≡ Some name → folder.held name ≡ Some []
  pub others : IsTrue before.tells → (name : List ℕ) → flow.output ≢ Some name → folder.held name ≡ before.held name
  pub head : HasHead flow.output (format_of source.reader) octets
  pub fed : IsFed folder source
  pub reads : SameCounts before.reads folder.reads
  pub creates : SameCounts before.creates folder.creates
  pub appends : SameCounts before.appends folder.appends

abbrev pub stop_of : FlowEnd → Option FlowStop
stop_of GoesOn = None
stop_of (Broken fault) = None
stop_of TooMany = None
stop_of (Stopped why) = Some why

-- how a flow ends whose input can't be begun
abbrev pub end_at : ReadStop → FlowEnd
end_at (read_stop.Capture fault) = Broken (file.Pcap fault)
end_at (read_stop.Ng fault) = Broken (file.Pcapng fault)
end_at read_stop.ReadFault = Stopped the_stop.Read
end_at read_stop.OutOfMemory = Stopped the_stop.OutOfMemory

-- what waits for the stream at the end of a flow of these totals, behind these lines
abbrev pub LeavesWaiting : Totals → FlowEnd → List ℕ → List ℕ → Type 0
LeavesWaiting totals GoesOn lines waits = waits ≡ lines ++ flow_end_line totals.number totals.packets totals.passed totals.denied
LeavesWaiting totals (Broken fault) lines waits = waits ≡ lines
LeavesWaiting totals TooMany lines waits = waits ≡ lines
LeavesWaiting totals (Stopped the_stop.Read) lines waits = waits ≡ lines
LeavesWaiting totals (Stopped the_stop.Create) lines waits = waits ≡ lines
LeavesWaiting totals (Stopped the_stop.Append) lines waits = waits ≡ lines
LeavesWaiting totals (Stopped the_stop.Print) lines waits = Unit {0}
LeavesWaiting totals (Stopped the_stop.OutOfMemory) lines waits = Unit {0}

-- the totals of a flow of this number at a moment
abbrev pub totals_at : ℕ → Moment → Totals
totals_at number now = record { number = number; packets = length now.seen; passed = now.passed; denied = now.denied }

abbrev pub WaitsFor : ℕ → FlowEnd → Moment → List ℕ → Type 0
WaitsFor number end now waits = LeavesWaiting (totals_at number now) end now.lines waits

-- what stands behind the last packet
abbrev pub IsBehind : FlowEnd → Option Behind → Type 0
IsBehind GoesOn behind = behind ≡ Some the_behind.Whole
IsBehind (Broken fault) behind = behind ≡ Some (the_behind.Broken fault)
IsBehind TooMany behind = behind ≡ Some the_behind.TooMany
IsBehind (Stopped why) behind = Unit {0}

-- From a moment on a flow has come so far, and ends so.
pub record HasFlown (plan : PlanState) (names : List (List ℕ)) (workers number upto : ℕ) (flow : FlowLine) (was : Moment) (after : Outside) (waits : List ℕ) (seen : List (List ℕ)) (end : FlowEnd) : Type 0 where
  pub now : Moment
  pub packets : List PacketIn
  pub pairs : List PairState
  pub taken : HasTaken number names flow was now pairs
  pub folder : after.folder ≡ now.folder
  pub stream : after.stream ≡ now.stream
  pub seen_is : seen ≡ now.seen
  pub stop : now.stop ≡ stop_of end
  pub waits_are : WaitsFor number end now waits
  pub whole : HasEnded end → AreSent flow.output now.octets
  pub behind : IsBehind end now.source.behind
  pub fed : IsFed now.folder now.source
  pub begun : AreBegun (packets_left was.folder.tells was.source (file_of was.folder was.source)) packets
  pub all : HasEnded end → AreWhole (packets_left was.folder.tells was.source (file_of was.folder was.source)) packets
  pub walked : AreWalked plan flow.hops packets pairs
  pub lawful : AreLawful plan flow.hops workers flow.before upto packets (versions_in pairs)

-- the same of a flow at its place
abbrev pub HasFlownAt : FlowPlace → Moment → Outside → List ℕ → List (List ℕ) → FlowEnd → Type 0
HasFlownAt place was after waits seen end =
    HasFlown (plan_at place) place.names.now place.workers place.number place.upto place.flow.now was after waits seen end

-- A flow ends so, where the beginning of its input has just been read behind the flow's line.
abbrev pub EndsBehind : FlowPlace → Source → DepotState → SinkState → List ℕ → Outside → List ℕ → List (List ℕ) → FlowEnd → Type 0
EndsBehind place source folder stream lines after waits' seen end =
    (before : Outside) (waits : List ℕ) → HasRead place.flow.now place.most before.folder folder source
    → stream ≡ before.stream → lines ≡ waits ++ flow_line place.number place.flow.now.input → FlowEndsAt place before after waits waits' seen end
