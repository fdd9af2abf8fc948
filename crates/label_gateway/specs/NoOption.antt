-- Packets that come in with a label that no option can say under which they may go on.
use Rattle.std.specs.Prelude.{◌≡◌, ℕ, nat_le, List, Option, Some, None, Ok, if◌then◌else◌}
use Rattle.std.specs.Option.{option_map}
use Rattle.domain_map.specs.declared.protocol.Protocol.{Protocol}
use Rattle.ip_headers.specs.declared.cause.Cause.{Cause}
use Rattle.ip_headers.specs.Packet.{ParsedPacket}
use Rattle.packet_label.specs.declared.packet.Wire.{Wire}
use Rattle.packet_label.specs.declared.denial.Denial.{Denial}
use Rattle.packet_label.specs.declared.denial.Denial.TheVariants.{OutsideRange, Expired, NoPair, NotCrossable}
use Rattle.version_cross.specs.Cause.{cross_cause}
use Rattle.node_tables.specs.Tables.{TableState}
use Rattle.label_receive.specs.Incoming.{Incoming, label_of}
use Rattle.label_receive.specs.Range.{is_outside}
use Rattle.label_send.specs.Outgoing.{suits}
use Rattle.label_send.specs.NoOption.{HasNoOption}
use Rattle.label_gateway.specs.Crossing.{partner_of}

-- the packet has labels at the interface that it comes from, and no option says the high one where it would go
pub record HasNoWayOn (t : TableState) (from domain : List ℕ) (p : ParsedPacket Wire) : Type 0 where
  pub incoming : Incoming
  pub labels : label_of t from p ≡ Ok incoming
  pub none : HasNoOption t domain incoming.high p

-- the case of crossing that comes before Inexpressible, if one holds: by the partners of the addresses, and the first cause against crossing
abbrev pub before_crossing : Option (List ℕ) → Option (List ℕ) → Option Cause → Option Denial
before_crossing (Some source) (Some destination) cause = option_map NotCrossable cause
before_crossing source destination cause = Some NoPair

-- the case of forwarding under this protocol that comes before Inexpressible, if one holds
abbrev pub before_forwarding : TableState → List ℕ → List ℕ → Incoming → Protocol → ParsedPacket Wire → Option Denial
before_forwarding t from to incoming protocol p =
    if is_outside t.ranges from incoming.low incoming.high then Some OutsideRange else
    (if nat_le p.hops 1 then Some Expired else
    (if is_outside t.ranges to incoming.low incoming.high then Some OutsideRange else
    (if suits p.version protocol then None else
    before_crossing (partner_of t.pairs p.version p.source) (partner_of t.pairs p.version p.destination) (cross_cause p))))
