-- Forwarding at a node, from one interface to another, by the first case that holds.
use Rattle.std.specs.Prelude.{ℕ, ◌-◌, nat_le, List, ok_or, Result, Ok, Err, if◌then◌else◌}
use Rattle.mls_label.specs.declared.label.Label.{Label}
use Rattle.domain_map.specs.declared.protocol.Protocol.{Protocol}
use Rattle.domain_map.specs.Domains.{find_of}
use Rattle.ip_headers.specs.Packet.{ParsedPacket}
use Rattle.packet_label.specs.declared.packet.Wire.{Wire}
use Rattle.packet_label.specs.declared.denial.Carrier.{Carrier}
use Rattle.packet_label.specs.declared.denial.Denial.{Denial}
use Rattle.packet_label.specs.declared.denial.Denial.TheVariants.{OutsideRange, Expired, NoMap}
use Rattle.node_tables.specs.Tables.{TableState}
use Rattle.label_receive.specs.Steps.{◌>>=◌}
use Rattle.label_receive.specs.Incoming.{Incoming, address_in, label_of}
use Rattle.label_receive.specs.Range.{is_outside}
use Rattle.label_send.specs.Outgoing.{suits, carrier_of}
use Rattle.label_send.specs.Room.{sent_under}
use Rattle.label_gateway.specs.Crossing.{crossed_under}

-- a packet that goes on, what carries its label, and that label: the high one, in the node's numbers
pub record Forwarded : Type 0 where
  pub carrier : Carrier
  pub label : Label
  pub packet : ParsedPacket Wire

-- the packet with this label under a protocol, of its own version or, where the protocol is of the other, of that; one hop less
abbrev pub onward : {L : Type 0} → TableState → Protocol → Label → ParsedPacket L → Result (ParsedPacket Wire) Denial
onward t protocol label p =
    if suits p.version protocol then sent_under t.definitions protocol label p (p.hops - 1)
    else crossed_under t protocol label p (p.hops - 1)

-- The protocol under which a packet with these labels goes on: both interfaces have to take both labels, a hop has to be left, and the
-- domain's map has to give a protocol towards the destination.
abbrev pub forward_protocol : TableState → List ℕ → List ℕ → List ℕ → ParsedPacket Wire → Incoming → Result Protocol Denial
forward_protocol t from to domain p incoming =
    if is_outside t.ranges from incoming.low incoming.high then Err OutsideRange else
    (if nat_le p.hops 1 then Err Expired else
    (if is_outside t.ranges to incoming.low incoming.high then Err OutsideRange else
    ok_or (find_of t.domains domain (address_in p.version p.destination)) NoMap))

-- what a node does with a packet that comes in at one interface for another
unfoldable pub forward_of : TableState → List ℕ → List ℕ → List ℕ → ParsedPacket Wire → Result Forwarded Denial
forward_of t from to domain p = do
  incoming ← label_of t from p
  protocol ← forward_protocol t from to domain p incoming
  packet ← onward t protocol incoming.high p
  Ok (record { carrier = carrier_of protocol; label = incoming.high; packet = packet })
