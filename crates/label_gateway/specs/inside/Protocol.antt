-- What the parts of a forwarding say.
use Rattle.std.specs.Prelude.{Result, Ok}
use Rattle.mls_label.specs.declared.label.Label.{Label}
use Rattle.domain_map.specs.declared.protocol.Protocol.{Protocol}
use Rattle.ip_headers.specs.Packet.{ParsedPacket}
use Rattle.packet_label.specs.declared.packet.Wire.{Wire}
use Rattle.packet_label.specs.declared.denial.Denial.{Denial}
use Rattle.node_tables.specs.Tables.{TableState}
use Rattle.label_receive.specs.Steps.{◌>>=◌}
use Rattle.label_send.specs.Outgoing.{carrier_of}
use Rattle.label_gateway.specs.Forward.{Forwarded, onward}

-- a packet with this label goes on under the protocol that was found, unless it is denied
abbrev pub forwarded_with : TableState → Label → ParsedPacket Wire → Result Protocol Denial → Result Forwarded Denial
forwarded_with t label p answer = do
  protocol ← answer
  packet ← onward t protocol label p
  Ok (record { carrier = carrier_of protocol; label = label; packet = packet })
