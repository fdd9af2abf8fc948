-- The packets of a flow, each judged by the worker of its number, beside the steps of a plan.
use Rattle.std.specs.Prelude.{◌≡◌, ℕ, ◌+◌, ◌%◌, ◌≤◌, List, [], ◌∷◌, nat_eq, cond, length}
use Rattle.label_commands.specs.declared.flow_lines.hop.Hop.{Hop}
use Rattle.shared_tables.specs.Plan.{PlanState}
use Rattle.shared_tables.specs.Board.{ViewerState}
use Rattle.captures.specs.declared.packet_in.PacketIn.{PacketIn}
use Rattle.label_flow.specs.packet_walk.Walk.{IsWalked}
use Rattle.label_flow.specs.Pair.{PairState}

-- of what stands from number n on, counted from 0, that of worker k among w
abbrev pub pick : {X : Type 0} → ℕ → ℕ → ℕ → List X → List X
pick k w n [] = []
pick k w n (x ∷ xs) = cond (nat_eq (n % w) k) (x ∷ pick k w (n + 1) xs) (pick k w (n + 1) xs)

-- one worker, who had seen version `seen` before and has seen version `now` after it, walked these packets one after the other
abbrev pub IsWork : PlanState → List Hop → ℕ → List PacketIn → List PairState → ℕ → Type 0
IsWork plan hops seen [] [] now = seen ≤ now
IsWork plan hops seen [] (pair ∷ pairs) now = ⊥
IsWork plan hops seen (packet ∷ packets) [] now = ⊥
IsWork plan hops seen (packet ∷ packets) (pair ∷ pairs) now =
    (between : ℕ) × IsWalked plan hops seen between packet pair.walked pair.octets × IsWork plan hops between packets pairs now

-- So many packets from number n on were judged, each by the worker of its number. Worker k and those after it had seen the first versions
-- before, and the second ones after.
abbrev pub AreRounds : List Hop → ℕ → ℕ → List PacketIn → List PairState → ℕ → List ViewerState → List ViewerState → Type 0
AreRounds hops w n packets pairs k [] [] = Unit {0}
AreRounds hops w n packets pairs k (v ∷ vs) (u ∷ us) = IsWork v.plan hops v.seen (pick k w n packets) (pick k w n pairs) u.seen × AreRounds hops w n packets pairs (k + 1) vs us
AreRounds hops w n packets pairs k _ _ = ⊥

-- Each of these packets, from number n on, has one pair. No version falls along one worker's packets, none of them is below what the
-- worker had seen before, and none above what it has seen after.
pub record IsRound (hops : List Hop) (n : ℕ) (packets : List PacketIn) (pairs : List PairState) (olds news : List ViewerState) : Type 0 where
  pub each : AreRounds hops (length olds) n packets pairs 0 olds news
  pub count : length pairs ≡ length packets

-- a viewer of the same plan, which has seen no less
pub record IsLater (v u : ViewerState) : Type 0 where
  pub board : u.board ≡ v.board
  pub plan : u.plan ≡ v.plan
  pub seen : v.seen ≤ u.seen

abbrev pub AreLater : List ViewerState → List ViewerState → Type 0
AreLater [] [] = Unit {0}
AreLater [] (u ∷ us) = ⊥
AreLater (v ∷ vs) [] = ⊥
AreLater (v ∷ vs) (u ∷ us) = IsLater v u × AreLater vs us
