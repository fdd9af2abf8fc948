-- What goes from worker to worker in a round, and what is known of it.
use Rattle.std.specs.Prelude.{◌≡◌, ℕ, ◌+◌, ◌*◌, ◌^◌, ◌<◌, ◌≤◌, List, [], ◌∷◌, length, take, drop, max, Option, Some, None, Bool, true, All, Result, OnOk, slice_index_or}
use Rattle.label_commands.specs.declared.flow_lines.hop.Hop.{Hop}
use Rattle.shared_tables.specs.Plan.{PlanState}
use Rattle.shared_tables.specs.Board.{ViewerState}
use Rattle.captures.specs.declared.packet_in.PacketIn.{PacketIn}
use Rattle.label_flow.specs.declared.rounds.RoundStop.{RoundStop}
use Rattle.label_flow.specs.declared.work.Batch.{Batch}
use Rattle.label_flow.specs.declared.work.Part.{Part}
use Rattle.label_flow.specs.Pair.{PairState}
use Rattle.label_flow.specs.Feed.{AreFetched, IsOver, AreWhole}
use Rattle.label_flow.specs.Round.{pick, IsWork, IsLater, AreLater}
use Rattle.label_flow.specs.inside.Work.{part_at, HasNodes, HasViewers, AreWorks, AllFit, LeavesFeed, TakesRound}

-- these packets stand at this number of what was left, as far as that is told
abbrev pub IsTold : Option (List PacketIn) → ℕ → List PacketIn → Type 0
IsTold None n packets = Unit {0}
IsTold (Some all) n packets = packets ≡ take (length packets) (drop n all)

abbrev pub IsShort : PacketIn → Type 0
IsShort packet = length packet.bytes ≤ 262144

-- a batch of 1,024 packets at most, which stand at its number of what was left
pub record IsHere (left : Option (List PacketIn)) (batch : Batch) : Type 0 where
  pub few : length batch.packets.items ≤ 1024
  pub numbers : batch.base + length batch.packets.items < 2 ^ 63
  pub told : IsTold left batch.base batch.packets.items
  pub short : All IsShort batch.packets.items

-- a worker's packets of a part of a batch, of which none is to be judged below what was seen
pub record OrderState : Type 0 where
  pub number : ℕ
  pub from : ViewerState
  pub batch : Batch
  pub place : ℕ

pub record MayOrder (left : Option (List PacketIn)) (number : ℕ) (batch : Batch) (place : ℕ) : Type 0 where
  pub worker : number < batch.workers
  pub few : place < 8
  pub inside : place * 128 < length batch.packets.items
  pub here : IsHere left batch

-- the part at a place of a batch that may be ordered there
pub record IsPart (left : Option (List PacketIn)) (batch : Batch) (part : Part) : Type 0 where
  pub few : part.place < 8
  pub inside : part.place * 128 < length batch.packets.items
  pub here : IsHere left batch
  pub workers : part.workers ≡ batch.workers
  pub base : part.base ≡ batch.base + part.place * 128
  pub count : part.count ≡ length (part_at part.place batch.packets.items)

-- the same, judged, and what was seen then
pub record DoneState : Type 0 where
  pub number : ℕ
  pub part : Part
  pub from : ViewerState
  pub to : ViewerState
  pub pairs : List PairState

-- Worker k made these pairs of its packets among so many from number n on, which stand there of what was left. Its viewer was v before, and u after
-- it.
pub record IsShare (hops : List Hop) (left : Option (List PacketIn)) (k w n count : ℕ) (v : ViewerState) (pairs : List PairState) (u : ViewerState) : Type 0 where
  pub packets : List PacketIn
  pub count_is : length packets ≡ count
  pub told : IsTold left n packets
  pub short : All IsShort packets
  pub work : IsWork v.plan hops v.seen (pick k w n packets) pairs u.seen
  pub later : IsLater v u

-- a viewer of this board and plan, of a round whose flow has these hops
pub record IsServant (board : ℕ) (plan : PlanState) (agreed hops : List Hop) (v : ViewerState) : Type 0 where
  pub board_is : v.board ≡ board
  pub plan_is : v.plan ≡ plan
  pub hops_are : hops ≡ agreed
  pub nodes : HasNodes hops v

-- They judged a part: so many packets as it has, which stand where it stands of what was left. What was made of them may be accepted.
pub record AreShared (hops : List Hop) (left : Option (List PacketIn)) (part : Part) (vs : List ViewerState) (ds : List (List PairState)) (us : List ViewerState) : Type 0 where
  pub packets : List PacketIn
  pub count_is : length packets ≡ part.count
  pub told : IsTold left part.base packets
  pub works : AreWorks hops (length vs) part.base packets 0 vs ds us
  pub fits : AllFit (length hops) ds

-- so many packets were fetched of what was told at the start, and this is left
pub record IsAt (told left : Option (List PacketIn)) (n : ℕ) : Type 0 where
  pub packets : List PacketIn
  pub count_is : length packets ≡ n
  pub fetched : AreFetched told packets left

-- a feed at its start, as all agree, with a bench and a tray for each of these viewers
pub record MayLead (agreed hops : List Hop) (told left : Option (List PacketIn)) (viewers : List ViewerState) (benches trays : ℕ) : Type 0 where
  pub hops_are : hops ≡ agreed
  pub left_is : left ≡ told
  pub viewers_are : HasViewers hops viewers
  pub benches_are : benches ≡ length viewers
  pub trays_are : trays ≡ length viewers

-- All batches of a feed were judged, or it stopped before.
pub record HasLed {Q A E : Type 0} (took : Q → Q → List PairState → Type 0) (left : Q → Option (List PacketIn)) (ended : Q → Bool) (due : Q → ℕ) (stop : Q → Option E) (told : Q → ℕ)
    (ready : Q → Type 0) (hops : List Hop) (result : Result A (RoundStop E)) (old new : Q) (vs us : List ViewerState) : Type 0 where
  pub later : AreLater vs us
  pub leaves : LeavesFeed result (told old) (told new) (due new) 0 (stop old) (stop new) (ready new)
  pub ok : OnOk result (IsOver (left new) × (ended new ≡ true))
  pub takes : TakesRound took old new hops 0 (left old) (λ packets. OnOk result (AreWhole (left old) packets)) vs us

-- each viewer learned of a version
pub record HaveLearnt (vs versions us : List ViewerState) : Type 0 where
  pub same : length us ≡ length vs
  pub each : (k : ℕ) (d : ViewerState) → k < length vs → slice_index_or us k d ≡ record (slice_index_or vs k d) { seen = max (slice_index_or vs k d).seen (slice_index_or versions k d).seen }

abbrev pub first_of : List ViewerState → ViewerState
first_of [] = record { board = 0; plan = record { nodes = 0; steps = [] }; seen = 0 }
first_of (v ∷ vs) = v

-- they are of one board and one plan
abbrev pub AreOfOne : List ViewerState → Type 0
AreOfOne vs = All (λ v. (v.board ≡ (first_of vs).board) × (v.plan ≡ (first_of vs).plan)) vs
