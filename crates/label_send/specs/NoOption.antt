-- Packets whose label no option can say that may go out.
use Rattle.std.specs.Prelude.{◌≡◌, ℕ, List, Option, Some, None, if◌then◌else◌}
use Rattle.mls_label.specs.declared.label.Label.{Label}
use Rattle.domain_map.specs.declared.protocol.Protocol.{Protocol}
use Rattle.domain_map.specs.Domains.{find_of}
use Rattle.ip_headers.specs.Packet.{ParsedPacket, Headers}
use Rattle.packet_label.specs.declared.denial.Denial.{Denial}
use Rattle.packet_label.specs.declared.denial.Denial.TheVariants.{OutsideRange, AlreadyLabelled, WrongVersion}
use Rattle.node_tables.specs.Tables.{TableState}
use Rattle.label_receive.specs.Incoming.{address_in}
use Rattle.label_receive.specs.Range.{is_outside}
use Rattle.label_send.specs.Outgoing.{suits}
use Rattle.label_send.specs.Laws.{IsInexpressible}

-- towards the packet's destination the domain's map gives a protocol, and no option of its DOI's definition says the label
pub record HasNoOption {L : Type 0} (t : TableState) (domain : List ℕ) (label : Label) (p : ParsedPacket L) : Type 0 where
  pub protocol : Protocol
  pub found : find_of t.domains domain (address_in p.version p.destination) ≡ Some protocol
  pub none : IsInexpressible t.definitions protocol label

-- the case of sending under this protocol that comes before Inexpressible, if one holds
abbrev pub before_sending : TableState → List ℕ → Protocol → Label → Headers → Option Denial
before_sending t interface protocol label h = elim h.label [
  | Some option ↦ Some (AlreadyLabelled option.place)
  | None ↦ if is_outside t.ranges interface label label then Some OutsideRange else if suits h.version protocol then None else Some WrongVersion
]
