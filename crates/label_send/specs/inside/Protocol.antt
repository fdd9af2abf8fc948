-- What a part of a sending says.
use Rattle.std.specs.Prelude.{Result, Ok}
use Rattle.mls_label.specs.declared.label.Label.{Label}
use Rattle.domain_map.specs.declared.protocol.Protocol.{Protocol}
use Rattle.ip_headers.specs.Packet.{Headers}
use Rattle.packet_label.specs.declared.denial.Denial.{Denial}
use Rattle.node_tables.specs.Tables.{TableState}
use Rattle.label_receive.specs.Steps.{◌>>=◌}
use Rattle.label_send.specs.Outgoing.{carrier_of}
use Rattle.label_send.specs.Room.{sent_under}
use Rattle.label_send.specs.Send.{Sent, sent_by}

-- the packet under the protocol that was found
abbrev pub sent_with : TableState → Label → Headers → Protocol → Result Sent Denial
sent_with t label h protocol = do
  packet ← sent_under t.definitions protocol label h h.hops
  Ok (sent_by (carrier_of protocol) packet)
