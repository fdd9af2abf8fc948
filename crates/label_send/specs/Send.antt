-- Sending a packet that a node's program made, by the first case that holds. Of a label option that stands in it the place alone is read.
use Rattle.std.specs.Prelude.{ℕ, List, Option, Some, None, Result, Ok, Err, if◌then◌else◌}
use Rattle.mls_label.specs.declared.label.Label.{Label}
use Rattle.domain_map.specs.declared.protocol.Protocol.{Protocol}
use Rattle.domain_map.specs.Domains.{find_of}
use Rattle.ip_headers.specs.declared.version.Version.{Version}
use Rattle.ip_headers.specs.declared.fault.HeadFault.{HeadFault}
use Rattle.ip_headers.specs.Packet.{ParsedPacket, Headers}
use Rattle.packet_label.specs.declared.packet.Wire.{Wire}
use Rattle.packet_label.specs.declared.denial.Carrier.{Carrier}
use Rattle.packet_label.specs.declared.denial.Denial.{Denial}
use Rattle.packet_label.specs.declared.denial.Denial.TheVariants.{BadHeader, OutsideRange, NoMap, AlreadyLabelled, WrongVersion}
use Rattle.packet_label.specs.Choice.{front_in}
use Rattle.node_tables.specs.Tables.{TableState}
use Rattle.label_receive.specs.Steps.{◌>>=◌}
use Rattle.label_receive.specs.Incoming.{address_in}
use Rattle.label_receive.specs.Range.{is_outside}
use Rattle.label_send.specs.Outgoing.{suits, carrier_of}
use Rattle.label_send.specs.Room.{sent_under}

-- a packet that goes out, and what carries its label
pub record Sent : Type 0 where
  pub carrier : Carrier
  pub packet : ParsedPacket Wire

-- what was sent, with what carries its label
abbrev pub sent_by : Carrier → ParsedPacket Wire → Sent
sent_by carrier packet = record { carrier = carrier; packet = packet }

-- the protocol that the map gives for a destination, if it suits the version
abbrev pub suiting : Version → Option Protocol → Result Protocol Denial
suiting version None = Err NoMap
suiting version (Some protocol) = if suits version protocol then Ok protocol else Err WrongVersion

-- the protocol under which a domain sends a packet that has no label option yet
abbrev pub free_protocol : TableState → List ℕ → List ℕ → Label → Headers → Result Protocol Denial
free_protocol t domain interface label h =
    if is_outside t.ranges interface label label then Err OutsideRange
    else suiting h.version (find_of t.domains domain (address_in h.version h.destination))

-- the protocol under which a domain sends a packet with this label
abbrev pub send_protocol : TableState → List ℕ → List ℕ → Label → Headers → Result Protocol Denial
send_protocol t domain interface label h = elim h.label [
  | Some option ↦ Err (AlreadyLabelled option.place)
  | None ↦ free_protocol t domain interface label h
]

-- what a domain sends at an interface; its hops stay
abbrev pub send_of : TableState → List ℕ → List ℕ → Label → Headers → Result Sent Denial
send_of t domain interface label h = do
  protocol ← send_protocol t domain interface label h
  packet ← sent_under t.definitions protocol label h h.hops
  Ok (sent_by (carrier_of protocol) packet)

-- the same of octets: a fault of their headers comes before all else
abbrev pub send_read : TableState → List ℕ → List ℕ → Label → Result Headers HeadFault → Result Sent Denial
send_read t domain interface label (Err fault) = Err (BadHeader fault.octet)
send_read t domain interface label (Ok headers) = send_of t domain interface label headers

-- the same of octets, of which the headers are read
abbrev pub send_octets : TableState → List ℕ → List ℕ → Label → List ℕ → Result Sent Denial
send_octets t domain interface label octets = send_read t domain interface label (front_in octets)
