-- What is true of the definitions alone.
use Rattle.std.specs.Prelude.{◌≡◌, ℕ, ◌<◌, false, List, Some, Ok}
use Rattle.std.specs.List.{All}
use Rattle.domain_map.specs.declared.protocol.Protocol.{Protocol}
use Rattle.domain_map.specs.Domains.{find_of}
use Rattle.ip_headers.specs.declared.version.Version.TheVariants.{V4, V6}
use Rattle.ip_headers.specs.Packet.{ParsedPacket}
use Rattle.packet_label.specs.declared.packet.Wire.{Wire}
use Rattle.version_cross.specs.Laws.{IsAddressOf}
use Rattle.node_tables.specs.Tables.{AddressPairs, TableState}
use Rattle.label_receive.specs.Incoming.{Incoming, address_in, label_of}
use Rattle.label_receive.specs.Range.{is_outside}
use Rattle.label_send.specs.Outgoing.{carrier_of}
use Rattle.label_gateway.specs.Forward.{Forwarded, onward}

-- Why a packet goes on: it has labels that both interfaces take, more than one hop is left, and the domain's map gives a protocol
-- under which it can go out.
pub record GoesOn (t : TableState) (from to domain : List ℕ) (p : ParsedPacket Wire) (f : Forwarded) : Type 0 where
  pub incoming : Incoming
  pub protocol : Protocol
  pub labels : label_of t from p ≡ Ok incoming
  pub taken : is_outside t.ranges from incoming.low incoming.high ≡ false
  pub hops : 1 < p.hops
  pub released : is_outside t.ranges to incoming.low incoming.high ≡ false
  pub found : find_of t.domains domain (address_in p.version p.destination) ≡ Some protocol
  pub goes : onward t protocol incoming.high p ≡ Ok f.packet
  pub is : f ≡ record { carrier = carrier_of protocol; label = incoming.high; packet = f.packet }

-- each pair is of an IPv4 and an IPv6 address
abbrev pub ArePairs : AddressPairs → Type 0
ArePairs pairs = All (λ (pair : List ℕ × List ℕ). IsAddressOf V4 pair.0 × IsAddressOf V6 pair.1) pairs
