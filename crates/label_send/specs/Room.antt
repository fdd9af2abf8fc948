-- The packet that sending and forwarding write: with the label under a protocol, in the room that its header has (RFC 791, RFC 8200).
use Rattle.std.specs.Prelude.{ℕ, nat_lt, Result, Ok, Err, if◌then◌else◌}
use Rattle.mls_label.specs.declared.label.Label.{Label}
use Rattle.doi_table.specs.Table.{Entries}
use Rattle.domain_map.specs.declared.protocol.Protocol.{Protocol}
use Rattle.ip_headers.specs.Packet.{ParsedPacket, relabelled}
use Rattle.ip_headers.specs.Written.{room_limit, rebuilt_room, rebuilt_length}
use Rattle.packet_label.specs.declared.packet.Wire.{Wire}
use Rattle.packet_label.specs.declared.denial.Denial.{Denial}
use Rattle.packet_label.specs.declared.denial.Denial.TheVariants.{NoRoom, TooLong}
use Rattle.packet_label.specs.Written.{written}
use Rattle.label_receive.specs.Steps.{◌>>=◌}
use Rattle.label_send.specs.Outgoing.{outgoing}

-- the packet, if its length field can count it
abbrev pub within_length : ParsedPacket Wire → Result (ParsedPacket Wire) Denial
within_length p = if nat_lt 65535 (rebuilt_length (written p)) then Err TooLong else Ok p

-- the packet, if its options have room
abbrev pub within_room : ParsedPacket Wire → Result (ParsedPacket Wire) Denial
within_room p = if nat_lt (room_limit p.version) (rebuilt_room (written p)) then Err NoRoom else within_length p

-- the packet with this label under this protocol, in the first tag that can express it, and so many hops
abbrev pub sent_under : {L : Type 0} → Entries → Protocol → Label → ParsedPacket L → ℕ → Result (ParsedPacket Wire) Denial
sent_under definitions protocol label p hops = do
  said ← outgoing definitions protocol label
  within_room (relabelled p said hops)
