-- Some order of the publisher's steps and the workers' looks, and the versions that it gives.
use Rattle.std.specs.Prelude.{◌≡◌, ℕ, suc, zero, ◌+◌, ◌<◌, ◌%◌, List, [], ◌∷◌, ◌++◌, length, map, nat_eq, cond, replicate}
use Rattle.std.specs.List.{AllZip}
use Rattle.label_commands.specs.declared.flow_lines.hop.Hop.{Hop}
use Rattle.shared_tables.specs.Plan.{PlanState}
use Rattle.captures.specs.declared.packet_in.PacketIn.{PacketIn}
use Rattle.label_flow.specs.declared.packet_walk.walked.End.{End}
use Rattle.label_flow.specs.packet_walk.Walk.{IsWalkOf, Rises}
use Rattle.label_flow.specs.Pair.{PairState}
use Rattle.label_flow.specs.Round.{pick}

-- the next step is published, or a worker looks for the next hop of its packet
pub data FlowEvent : Type 0 where
  step : FlowEvent
  look : ℕ → FlowEvent

-- the versions that worker k finds, from version v on
abbrev pub looks_of : ℕ → ℕ → List FlowEvent → List ℕ
looks_of k v [] = []
looks_of k v (step ∷ events) = looks_of k (v + 1) events
looks_of k v (look worker ∷ events) = cond (nat_eq worker k) (v ∷ looks_of k v events) (looks_of k v events)

abbrev pub steps_in : List FlowEvent → ℕ
steps_in [] = 0
steps_in (step ∷ events) = suc (steps_in events)
steps_in (look worker ∷ events) = steps_in events

-- under these versions a packet's hops judged it, up to its walk's end
abbrev pub IsSeen : PlanState → List Hop → PacketIn → List ℕ → Type 0
IsSeen plan hops packet versions = (end : End) × (out : List ℕ) × IsWalkOf plan hops packet versions end out

-- the versions of all packets, one after another
abbrev pub in_a_row : List (List ℕ) → List ℕ
in_a_row [] = []
in_a_row (versions ∷ seen) = versions ++ in_a_row seen

-- A flow's packets and the versions of their hops, with w workers from version `before` to version `after`: each packet has as many
-- versions as its walk under them judges hops, and along a worker's packets none falls.
pub record AreLawful (plan : PlanState) (hops : List Hop) (w before after : ℕ) (packets : List PacketIn) (seen : List (List ℕ)) : Type 0 where
  pub count : length seen ≡ length packets
  pub walks : (k : ℕ) → k < w → AllZip (IsSeen plan hops) (pick k w 0 packets) (pick k w 0 seen)
  pub rises : (k : ℕ) → k < w → Rises before after (in_a_row (pick k w 0 seen))

-- one worker has these looks left, and the others what they had
abbrev pub left_to : ℕ → List ℕ → (ℕ → List ℕ) → ℕ → List ℕ
left_to worker rest looks k = cond (nat_eq worker k) rest (looks k)

-- Each of these packets, from number n on, is judged by the worker of its number under the next of the versions that this worker finds, as
-- many as its walk judges hops. No look is left over.
abbrev pub AreJudged : PlanState → List Hop → ℕ → ℕ → List PacketIn → (ℕ → List ℕ) → List (List ℕ) → Type 0
AreJudged plan hops w n [] looks [] = (k : ℕ) → looks k ≡ []
AreJudged plan hops w n (packet ∷ packets) looks (versions ∷ seen) =
    (rest : List ℕ) × (looks (n % w) ≡ versions ++ rest) × IsSeen plan hops packet versions
    × AreJudged plan hops w (n + 1) packets (left_to (n % w) rest looks) seen
AreJudged plan hops w n packets looks seen = ⊥

-- A complete schedule gives these versions: its steps lead from `before` to `after`, and its looks are exactly those that the packets need.
pub record IsPlay (plan : PlanState) (hops : List Hop) (w before after : ℕ) (packets : List PacketIn) (events : List FlowEvent) (seen : List (List ℕ)) : Type 0 where
  pub steps : before + steps_in events ≡ after
  pub judged : AreJudged plan hops w 0 packets (λ k. looks_of k before events) seen

-- how often a version stands in a list
abbrev pub times : ℕ → List ℕ → ℕ
times v [] = 0
times v (x ∷ xs) = cond (nat_eq x v) (suc (times v xs)) (times v xs)

-- the looks of the first workers at version v, where `rows` has the versions of each
abbrev pub looks_at : (ℕ → List ℕ) → ℕ → ℕ → List FlowEvent
looks_at rows zero v = []
looks_at rows (suc k) v = looks_at rows k v ++ replicate (times v (rows k)) (look k)

-- all looks in the order of their versions, with so many steps from version v on
abbrev pub by_version : (ℕ → List ℕ) → ℕ → ℕ → ℕ → List FlowEvent
by_version rows w v zero = looks_at rows w v
by_version rows w v (suc steps) = looks_at rows w v ++ step ∷ by_version rows w (v + 1) steps

-- the versions of each worker's packets, in a row
abbrev pub rows_by : ℕ → List (List ℕ) → ℕ → List ℕ
rows_by w seen k = in_a_row (pick k w 0 seen)

-- the versions of what became of packets
abbrev pub versions_in : List PairState → List (List ℕ)
versions_in pairs = map (λ pair. pair.walked.versions) pairs
