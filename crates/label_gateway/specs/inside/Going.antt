-- What forwarding knows of the packets that it writes.
use Rattle.std.specs.Prelude.{ℕ, List, Option, Result, IfSome, MatchBool}
use Rattle.mls_label.specs.declared.label.Label.{Label}
use Rattle.domain_map.specs.declared.protocol.Protocol.{Protocol}
use Rattle.domain_map.specs.Domains.{find_of}
use Rattle.ip_headers.specs.declared.version.Version.{Version}
use Rattle.ip_headers.specs.Packet.{ParsedPacket}
use Rattle.packet_label.specs.declared.packet.Wire.{Wire}
use Rattle.packet_label.specs.declared.denial.Denial.{Denial}
use Rattle.version_cross.specs.Cross.{other_version}
use Rattle.version_cross.specs.Laws.{IsAddressOf}
use Rattle.node_tables.specs.Tables.{AddressPairs, TableState}
use Rattle.label_receive.specs.Incoming.{address_in}
use Rattle.label_send.specs.Outgoing.{CanGoOut, outgoing, suits}
use Rattle.label_gateway.specs.Crossing.{partner_of}

-- an option of the new version can say what goes out, and the new addresses are of that version
pub record CanCrossOut (version : Version) (out : Result (Option Wire) Denial) (source destination : Option (List ℕ)) : Type 0 where
  pub said : CanGoOut version out
  pub from : IfSome source (IsAddressOf version)
  pub to : IfSome destination (IsAddressOf version)

-- the same of a packet of this version, in its own or the other as the protocol asks for
abbrev pub CanGoOnIn : Version → Protocol → Result (Option Wire) Denial → AddressPairs → List ℕ → List ℕ → Type 0
CanGoOnIn version protocol out pairs source destination =
    MatchBool (suits version protocol) (CanGoOut version out) (CanCrossOut (other_version version) out (partner_of pairs version source) (partner_of pairs version destination))

abbrev pub CanGoOn : {L : Type 0} → TableState → Protocol → Label → ParsedPacket L → Type 0
CanGoOn t protocol label p = CanGoOnIn p.version protocol (outgoing t.definitions protocol label) t.pairs p.source p.destination

-- the same by the protocol that the domain's map gives towards the destination
abbrev pub CanGoOnFrom : {L : Type 0} → TableState → List ℕ → Label → ParsedPacket L → Type 0
CanGoOnFrom t domain label p = IfSome (find_of t.domains domain (address_in p.version p.destination)) (λ protocol. CanGoOn t protocol label p)
