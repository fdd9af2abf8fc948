-- A packet's walk over the hops of a flow, each of which judges it under one published version of the tables.
use Rattle.std.specs.Prelude.{◌≡◌, ◌⊎◌, ℕ, ◌+◌, ◌≤◌, List, [], ◌∷◌, length, slice_get, unwrap_or, Result, Ok, Err, MatchBool, All}
use Rattle.ip_headers.specs.Packet.{ParsedPacket}
use Rattle.ip_headers.specs.Written.{packet_octets}
use Rattle.packet_label.specs.declared.denial.Carrier.{Carrier}
use Rattle.packet_label.specs.declared.denial.Carrier.TheVariants.{Unlabelled}
use Rattle.packet_label.specs.declared.denial.Denial.{Denial}
use Rattle.packet_label.specs.declared.denial.Denial.TheVariants.{NotIp}
use Rattle.packet_label.specs.declared.fault.CarryFault.{CarryFault}
use Rattle.packet_label.specs.declared.packet.Wire.{Wire}
use Rattle.packet_label.specs.Written.{IsNext, IsReadAs, written}
use Rattle.label_commands.specs.declared.flow_lines.hop.Hop.{Hop}
use Rattle.label_commands.specs.declared.flow_lines.hop.Hop.TheVariants.{Send, Forward, Receive}
use Rattle.node_tables.specs.Tables.{TableState, fresh}
use Rattle.label_receive.specs.declared.receiving.Delivered.{Delivered}
use Rattle.label_receive.specs.Judged.{judged_by}
use Rattle.label_receive.specs.Receive.{receive_of}
use Rattle.label_send.specs.Send.{send_octets}
use Rattle.label_gateway.specs.Forward.{forward_of}
use Rattle.shared_tables.specs.Plan.{PlanState, network_after}
use Rattle.captures.specs.declared.packet_in.PacketIn.{PacketIn}
use Rattle.label_flow.specs.declared.packet_walk.walked.End.{End}
use Rattle.label_flow.specs.declared.packet_walk.walked.End.TheVariants as the_end
use Rattle.label_flow.specs.declared.packet_walk.walked.Walked.{Walked}

-- how a packet comes to a hop: as octets from outside, or as the hop in front wrote it, with what carries its label
pub data Coming : Type 0 where
  from_outside : List ℕ → Coming
  from_hop : Carrier → ParsedPacket Wire → Coming

-- the octets that come to the hop
abbrev pub octets_in : Coming → List ℕ
octets_in (from_outside octets) = octets
octets_in (from_hop carrier packet) = packet_octets (written packet)

-- what carries the label of what comes, if the hop in front wrote it
abbrev pub carrier_in : Coming → Carrier
carrier_in (from_outside octets) = Unlabelled
carrier_in (from_hop carrier packet) = carrier

-- what a hop reads of it: what the octets from outside are, or the packet that was written
abbrev pub IsReadFrom : Coming → Result (ParsedPacket Wire) CarryFault → Type 0
IsReadFrom (from_outside octets) read = IsReadAs octets read
IsReadFrom (from_hop carrier packet) read = IsNext packet read

-- what a hop makes of a packet: it denies it, wrote one that goes on, or delivers a label
pub data HopVerdict : Type 0 where
  denied : Denial → HopVerdict
  goes_on : Carrier → ParsedPacket Wire → HopVerdict
  arrives : Delivered → HopVerdict

-- what a rule gives, as a verdict
abbrev pub verdict_of : {X : Type 0} → (X → HopVerdict) → Result X Denial → HopVerdict
verdict_of made (Ok x) = made x
verdict_of made (Err why) = denied why

-- the tables of a node, by its number; a number that no node has stands for a fresh one
abbrev pub tables_of : List TableState → ℕ → TableState
tables_of network node = unwrap_or (slice_get network node) fresh

-- what a hop makes of octets that are read so, under the tables of its node: one that sends reads their headers alone
abbrev pub hop_verdict : List TableState → Hop → List ℕ → Result (ParsedPacket Wire) CarryFault → HopVerdict
hop_verdict network (Send node domain interface label) octets read =
    verdict_of (λ sent. goes_on sent.carrier sent.packet) (send_octets (tables_of network node) domain interface label octets)
hop_verdict network (Forward node from to domain) octets read =
    verdict_of (λ forwarded. goes_on forwarded.carrier forwarded.packet) (judged_by (forward_of (tables_of network node) from to domain) read)
hop_verdict network (Receive node interface) octets read =
    verdict_of arrives (judged_by (receive_of (tables_of network node) interface) read)

-- the walk ended here, under no further version, so, and it leaves these octets
abbrev pub Ends : List ℕ → End → List ℕ → End → List ℕ → Type 0
Ends versions end out at octets = (versions ≡ []) × (end ≡ at) × (out ≡ octets)

-- What follows the verdict of hop k on these octets. A hop that denies the packet is named, and then no octet is left; behind one that wrote
-- a packet stands the walk of what comes to the next hop; one that delivers it leaves the octets as they came.
abbrev pub Follows : ℕ → List ℕ → (Coming → Type 0) → List ℕ → End → List ℕ → HopVerdict → Type 0
Follows k octets walk versions end out (denied why) = Ends versions end out (the_end.Denied k why) []
Follows k octets walk versions end out (goes_on carrier packet) = walk (from_hop carrier packet)
Follows k octets walk versions end out (arrives delivered) = Ends versions end out (the_end.Delivered delivered.label delivered.receiver) octets

-- The walk over these hops, the first of which is hop k, each under the tables of one of the versions. Behind the last hop the packet was
-- sent on.
abbrev pub IsWalk : PlanState → ℕ → List Hop → Coming → List ℕ → End → List ℕ → Type 0
IsWalk plan k [] coming versions end out = Ends versions end out (the_end.Sent (carrier_in coming)) (octets_in coming)
IsWalk plan k (hop ∷ hops) coming [] end out = ⊥
IsWalk plan k (hop ∷ hops) coming (version ∷ versions) end out =
    (read : Result (ParsedPacket Wire) CarryFault) × IsReadFrom coming read
    × Follows k (octets_in coming) (λ next. IsWalk plan (k + 1) hops next versions end out) versions end out (hop_verdict (network_after plan version) hop (octets_in coming) read)

-- the walk of what comes in; a frame that isn't a packet of IP is denied by hop 0, under no version
abbrev pub IsWalkOf : PlanState → List Hop → PacketIn → List ℕ → End → List ℕ → Type 0
IsWalkOf plan hops packet versions end out =
    MatchBool packet.is_ip (IsWalk plan 1 hops (from_outside packet.bytes) versions end out) (Ends versions end out (the_end.Denied 0 NotIp) [])

-- none of the versions falls, the first is at least `low`, and the last at most `high`
abbrev pub Rises : ℕ → ℕ → List ℕ → Type 0
Rises low high [] = low ≤ high
Rises low high (version ∷ versions) = (low ≤ version) × Rises version high versions

-- what became of a packet over these hops, by one who had seen version `seen` before and has seen version `now` after it
pub record IsWalked (plan : PlanState) (hops : List Hop) (seen now : ℕ) (packet : PacketIn) (walked : Walked) (out : List ℕ) : Type 0 where
  pub walk : IsWalkOf plan hops packet walked.versions walked.end out
  pub rises : Rises seen now walked.versions
  pub within : All (λ version. version ≤ length plan.steps) walked.versions
  -- what a hop wrote has at most 65,535 octets behind the fixed 40 of version 6
  pub short : (length out ≤ 65575) ⊎ (out ≡ packet.bytes)
