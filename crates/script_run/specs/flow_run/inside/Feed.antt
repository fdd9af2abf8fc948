-- A feed as the flow that it carries. In each word `folder` and `stream` tell what the feed's folder and stream are.
use Rattle.std.specs.Prelude.{ℕ, ◌≡◌, List, [], Option, None}
use Rattle.net_io.specs.Depot.{DepotState}
use Rattle.net_io.specs.Sink.{SinkState}
use Rattle.captures.specs.declared.packet_in.PacketIn.{PacketIn}
use Rattle.shared_tables.specs.Board.{ViewerState}
use Rattle.label_flow.specs.Pair.{PairState}
use Rattle.label_flow.specs.Feed.{AreBegun, AreWhole}
use Rattle.label_flow.specs.Round.{IsRound}
use Rattle.call_report.specs.Outside.{Outside}
use Rattle.script_run.specs.declared.flow_run.end.FlowEnd.{FlowEnd}
use Rattle.script_run.specs.declared.flow_run.feed.RunFeed.{RunFeed}
use Rattle.script_run.specs.flow_run.inside.Output.{IsThere}
use Rattle.script_run.specs.flow_run.inside.Source.{IsFed, IsAhead, left_in, due_in}
use Rattle.script_run.specs.flow_run.inside.Taken.{Moment, HasTakenAt, IsGoing}
use Rattle.script_run.specs.flow_run.inside.Flown.{IsFresh, EndsBehind, HasFlownAt, stop_of}

-- where its flow is
abbrev pub moment_of : {D S : Type 0} → (D → DepotState) → (S → SinkState) → RunFeed D S → Moment
moment_of folder stream feed = record {
  folder = folder feed.depot.now;
  stream = stream feed.out.now;
  lines = feed.report.now.waiting.items;
  octets = feed.octets.items;
  seen = feed.seen;
  passed = feed.passed;
  denied = feed.denied;
  source = feed.source;
  stop = feed.stop;
}

abbrev pub outside_at : {D S : Type 0} → (D → DepotState) → (S → SinkState) → RunFeed D S → Outside
outside_at folder stream feed = record { folder = folder feed.depot.now; stream = stream feed.out.now }

-- the packets that are still to be fetched, where the folder tells what it holds
abbrev pub left_of : {D S : Type 0} → (D → DepotState) → RunFeed D S → Option (List PacketIn)
left_of folder feed = left_in (folder feed.depot.now) feed.source feed.next.items

-- how many packets were fetched that aren't accepted yet
abbrev pub due_of : {D S : Type 0} → RunFeed D S → ℕ
due_of feed = due_in feed.source

-- it has the same loans, and carries the same flow
abbrev pub IsSameFlow : {D S : Type 0} → RunFeed D S → RunFeed D S → Type 0
IsSameFlow old new =
    (new.depot.ghost_name ≡ old.depot.ghost_name) × (new.out.ghost_name ≡ old.out.ghost_name) × (new.report.ghost_name ≡ old.report.ghost_name)
    × (new.place ≡ old.place)

-- what each call of it needs, and leaves
abbrev pub IsReadyFeed : {D S : Type 0} → (D → DepotState) → (S → SinkState) → RunFeed D S → Type 0
IsReadyFeed folder stream feed =
    IsFed (folder feed.depot.now) feed.source × IsGoing feed.place.flow.now (moment_of folder stream feed) × IsAhead feed.source feed.next.items

-- since an earlier state of it these pairs were accepted
abbrev pub HasTakenSince : {D S : Type 0} → (D → DepotState) → (S → SinkState) → RunFeed D S → RunFeed D S → List PairState → Type 0
HasTakenSince folder stream was now pairs =
    IsSameFlow was now × HasTakenAt now.place (moment_of folder stream was) (moment_of folder stream now) pairs

-- nothing was read but the beginning of its input, and nothing has stopped it
pub record IsNew {D S : Type 0} (folder : D → DepotState) (feed : RunFeed D S) : Type 0 where
  pub fresh : IsFresh feed.place.flow.now.input feed.place.most feed.source
  pub fed : IsFed (folder feed.depot.now) feed.source
  pub seen : feed.seen ≡ []
  pub passed : feed.passed ≡ 0
  pub denied : feed.denied ≡ 0
  pub stop : feed.stop ≡ None

-- and its output is there
pub record IsPrepared {D S : Type 0} (folder : D → DepotState) (feed : RunFeed D S) : Type 0 where
  pub new : IsNew folder feed
  pub there : IsThere feed.place.flow.now.output (folder feed.depot.now)

-- its flow goes on: nothing is fetched, nothing stands behind what was read, and nothing has stopped it
pub record GoesOnFrom {D S : Type 0} (folder : D → DepotState) (stream : S → SinkState) (feed : RunFeed D S) : Type 0 where
  pub ready : IsReadyFeed folder stream feed
  pub due : due_of feed ≡ 0
  pub behind : feed.source.behind ≡ None
  pub stop : feed.stop ≡ None

-- A round of its packets was judged, by these viewers: all that were left, unless something stopped it.
pub record HasRound {D S : Type 0} (folder : D → DepotState) (stream : S → SinkState) (old new : RunFeed D S) (olds news : List ViewerState) : Type 0 where
  pub packets : List PacketIn
  pub pairs : List PairState
  pub round : IsRound old.place.flow.now.hops 0 packets pairs olds news
  pub begun : AreBegun (left_of folder old) packets
  pub taken : HasTakenSince folder stream old new pairs
  pub whole : new.stop ≡ None → AreWhole (left_of folder old) packets

-- where its flow was when it ended so, in front of the flow's last line
abbrev pub last_moment : {D S : Type 0} → (D → DepotState) → (S → SinkState) → RunFeed D S → RunFeed D S → FlowEnd → Moment
last_moment folder stream old new end = record (moment_of folder stream new) { lines = old.report.now.waiting.items; stop = stop_of end }

-- what it has taken up to here, it has taken up to that moment
abbrev pub HasTakenToEnd : {D S : Type 0} → (D → DepotState) → (S → SinkState) → RunFeed D S → RunFeed D S → FlowEnd → Type 0
HasTakenToEnd folder stream old new end =
    (was : Moment) (pairs : List PairState) → HasTakenAt old.place was (moment_of folder stream old) pairs
    → HasTakenAt old.place was (last_moment folder stream old new end) pairs

-- from here on its flow has come so far, and ends so
abbrev pub HasFlownSince : {D S : Type 0} → (D → DepotState) → (S → SinkState) → RunFeed D S → RunFeed D S → FlowEnd → Type 0
HasFlownSince folder stream old new end =
    HasFlownAt old.place (moment_of folder stream old) (outside_at folder stream new) new.report.now.waiting.items new.seen end

-- the same where the beginning of its input has just been read
abbrev pub EndsSince : {D S : Type 0} → (D → DepotState) → (S → SinkState) → RunFeed D S → RunFeed D S → FlowEnd → Type 0
EndsSince folder stream old new end =
    EndsBehind old.place old.source (folder old.depot.now) (stream old.out.now) old.report.now.waiting.items (outside_at folder stream new)
    new.report.now.waiting.items new.seen end
