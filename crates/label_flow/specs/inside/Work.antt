-- What the workers made of a batch, and what is handed over of it.
use Rattle.std.specs.Prelude.{◌≡◌, ℕ, ◌+◌, ◌*◌, ◌<◌, ◌≤◌, List, [], ◌∷◌, ◌++◌, length, take, drop, slice_index_or, slice_get, Option, Some, All, Result, IfErr, OnOk}
use Rattle.label_commands.specs.declared.flow_lines.hop.Hop.{Hop}
use Rattle.label_commands.specs.flow_lines.Hop.{node_of}
use Rattle.shared_tables.specs.Board.{ViewerState}
use Rattle.captures.specs.declared.packet_in.PacketIn.{PacketIn}
use Rattle.label_flow.specs.packet_walk.Walk.{IsWalked}
use Rattle.label_flow.specs.declared.rounds.RoundStop.{RoundStop}
use Rattle.label_flow.specs.Pair.{PairState}
use Rattle.label_flow.specs.Feed.{MayAccept, AreBegun}
use Rattle.label_flow.specs.Round.{pick, IsWork, IsRound}
use Rattle.label_flow.specs.Stops.{IsStop}

-- the packets of the part of a batch at this place, counted from 0: 128 at most
abbrev pub part_at : ℕ → List PacketIn → List PacketIn
part_at place packets = take 128 (drop (place * 128) packets)

-- each hop's node is in the viewer's network
abbrev pub HasNodes : List Hop → ViewerState → Type 0
HasNodes hops v = All (λ hop. node_of hop < v.plan.nodes) hops

-- what became of a packet, by a worker whose viewer was v before it and is u after it
abbrev pub IsWalkedBy : List Hop → ViewerState → ViewerState → PacketIn → PairState → Type 0
IsWalkedBy hops v u packet pair = IsWalked v.plan hops v.seen u.seen packet pair.walked pair.octets

-- one more pair stands behind those that were there: what became of that packet
abbrev pub IsOneMore : List Hop → ViewerState → ViewerState → PacketIn → List PairState → List PairState → Type 0
IsOneMore hops v u packet old new = (pair : PairState) × (new ≡ old ++ pair ∷ []) × IsWalkedBy hops v u packet pair

-- worker k and those after it, each with what it made of its packets of these, which begin at number n
abbrev pub AreWorks : List Hop → ℕ → ℕ → List PacketIn → ℕ → List ViewerState → List (List PairState) → List ViewerState → Type 0
AreWorks hops w n batch k [] [] [] = Unit {0}
AreWorks hops w n batch k (v ∷ vs) (d ∷ ds) (u ∷ us) = IsWork v.plan hops v.seen (pick k w n batch) d u.seen × AreWorks hops w n batch (k + 1) vs ds us
AreWorks hops w n batch k _ _ _ = ⊥

-- what was handed over, in order, is for each worker the first of what it made
pub record AreFirst (w n : ℕ) (ds : List (List PairState)) (pairs : List PairState) : Type 0 where
  pub each : (k : ℕ) → k < w → (c : ℕ) × (take c (slice_index_or ds k []) ≡ pick k w n pairs)

-- each worker made one pair for each of its packets
pub record HasRoom (w n : ℕ) (batch : List PacketIn) (ds : List (List PairState)) : Type 0 where
  pub each : (k : ℕ) → k < w → length (slice_index_or ds k []) ≡ length (pick k w n batch)

-- each pair that was made may be accepted
pub record AllFit (hops : ℕ) (ds : List (List PairState)) : Type 0 where
  pub each : (k j : ℕ) (r : PairState) → slice_get (slice_index_or ds k []) j ≡ Some r → MayAccept hops r.walked.end r.octets

-- there are 1 to 16 viewers, each with the nodes of these hops
pub record HasViewers (hops : List Hop) (viewers : List ViewerState) : Type 0 where
  pub some : 0 < length viewers
  pub few : length viewers ≤ 16
  pub nodes : All (HasNodes hops) viewers

-- w workers, each with a bench and a tray, and these viewers
pub record HasCrew (hops : List Hop) (w benches trays : ℕ) (viewers : List ViewerState) : Type 0 where
  pub all : w ≡ length viewers
  pub same : benches ≡ length viewers
  pub trays_are : trays ≡ length viewers
  pub viewers_are : HasViewers hops viewers

-- a feed is ready, with so many packets due, and its flow has these hops
pub record IsReadyFor (hops : List Hop) (n hops_told due : ℕ) (ready : Type 0) : Type 0 where
  pub hops_are : hops_told ≡ length hops
  pub due_is : due ≡ n
  pub is_ready : ready

-- how a call leaves its feed: ready, with the same hops; after Ok so much is due and it has no new stop, else the stop has its cause
pub record LeavesFeed {A E : Type 0} (result : Result A (RoundStop E)) (hops hops' due rest : ℕ) (stop stop' : Option E) (ready : Type 0) : Type 0 where
  pub hops_stay : hops' ≡ hops
  pub is_ready : ready
  pub ok : OnOk result ((due ≡ rest) × (stop' ≡ stop))
  pub err : IfErr result (λ e. IsStop e stop stop')

-- From one state of a feed to a later one the pairs of a round from number n on were accepted, for the first packets of what was left, of which
-- `told` holds.
abbrev pub TakesRound : {Q : Type 0} → (Q → Q → List PairState → Type 0) → Q → Q → List Hop → ℕ → Option (List PacketIn) → (List PacketIn → Type 0)
    → List ViewerState → List ViewerState → Type 0
TakesRound {Q} took old new hops n left told olds news =
    (was : Q) (h : List PairState) → took was old h → (packets : List PacketIn) × (pairs : List PairState) × IsRound hops n packets pairs olds news
    × AreBegun left packets × took was new (h ++ pairs) × told packets
