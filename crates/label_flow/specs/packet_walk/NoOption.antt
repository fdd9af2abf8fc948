-- Packets that come to a hop which has no option for their label.
use Rattle.std.specs.Prelude.{◌≡◌, ◌⊎◌, ℕ, ◌+◌, IsTrue, List, [], ◌∷◌, unwrap_or, Result, Ok}
use Rattle.ip_headers.specs.Packet.{ParsedPacket, Headers}
use Rattle.packet_label.specs.declared.denial.Carrier.{Carrier}
use Rattle.packet_label.specs.declared.denial.Denial.{Denial}
use Rattle.packet_label.specs.declared.denial.Denial.TheVariants.{Inexpressible}
use Rattle.packet_label.specs.declared.fault.CarryFault.{CarryFault}
use Rattle.packet_label.specs.declared.packet.Wire.{Wire}
use Rattle.packet_label.specs.Choice.{front_in}
use Rattle.label_commands.specs.declared.flow_lines.hop.Hop.{Hop}
use Rattle.label_commands.specs.declared.flow_lines.hop.Hop.TheVariants.{Send, Forward, Receive}
use Rattle.node_tables.specs.Tables.{TableState}
use Rattle.label_send.specs.NoOption.{HasNoOption, before_sending}
use Rattle.label_gateway.specs.NoOption.{HasNoWayOn, before_forwarding}
use Rattle.shared_tables.specs.Plan.{PlanState, network_after}
use Rattle.captures.specs.declared.packet_in.PacketIn.{PacketIn}
use Rattle.label_flow.specs.packet_walk.Walk.{Coming, from_outside, from_hop, octets_in, IsReadFrom, goes_on, tables_of, hop_verdict}

-- No option says the label of these octets, which are read so, where a hop would send or forward them; and why it denies them: by the
-- first case that holds, the last of which is Inexpressible.
abbrev pub HopHasNoOption : List TableState → Hop → List ℕ → Result (ParsedPacket Wire) CarryFault → Denial → Type 0
HopHasNoOption network (Send node domain interface label) octets read why =
    (h : Headers) × (front_in octets ≡ Ok h) × ((lacks : HasNoOption (tables_of network node) domain label h)
    × (why ≡ unwrap_or (before_sending (tables_of network node) interface lacks.protocol label h) Inexpressible))
HopHasNoOption network (Forward node from to domain) octets read why =
    (p : ParsedPacket Wire) × (read ≡ Ok p) × ((lacks : HasNoWayOn (tables_of network node) from domain p)
    × (why ≡ unwrap_or (before_forwarding (tables_of network node) from to lacks.incoming lacks.none.protocol p) Inexpressible))
HopHasNoOption network (Receive node interface) octets read why = ⊥

-- Over these hops, the first of which is hop k, each under its version, the packet comes to hop `at`, which has no option for its label:
-- that is the first hop, or the first hop writes it and a later one has none.
abbrev pub ComesToNoOption : PlanState → ℕ → List Hop → Coming → List ℕ → ℕ → Denial → Type 0
ComesToNoOption plan k [] coming versions at why = ⊥
ComesToNoOption plan k (hop ∷ hops) coming [] at why = ⊥
ComesToNoOption plan k (hop ∷ hops) coming (version ∷ versions) at why =
    (read : Result (ParsedPacket Wire) CarryFault) × IsReadFrom coming read
    × (((at ≡ k) × HopHasNoOption (network_after plan version) hop (octets_in coming) read why)
    ⊎ ((carrier : Carrier) × (packet : ParsedPacket Wire) × (hop_verdict (network_after plan version) hop (octets_in coming) read ≡ goes_on carrier packet)
    × ComesToNoOption plan (k + 1) hops (from_hop carrier packet) versions at why))

-- the same of a packet that comes in
abbrev pub MeetsNoOption : PlanState → List Hop → PacketIn → List ℕ → ℕ → Denial → Type 0
MeetsNoOption plan hops packet versions at why = IsTrue packet.is_ip × ComesToNoOption plan 1 hops (from_outside packet.bytes) versions at why
