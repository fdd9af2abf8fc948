use Rattle.std.proofs.Common.{sym}
use Rattle.mls_label.proofs.octet_grammar.Octets.{octets_of}
use Rattle.packet_label.specs.Packet.{headers_of, version_of}
use Rattle.label_send.proofs.Writable.{read_in_room}
use Rattle.label_send.proofs.sending.send_into.Goals as goal

pub returns-in-Ok-protocol_for-clause-in_room : goal.returns-in-Ok-protocol_for-clause-in_room
returns-in-Ok-protocol_for-clause-in_room c =
    let octets = c.args.packet.now in
    let front = c.in-Ok.found.0 in
    read_in_room c.args.tables.now c.args.domain.now c.args.interface.now c.args.label.now octets (headers_of front) (version_of front) c.in-Ok-protocol_for.protocol
    (octets_of octets c.type_inv.packet) (rw c.in-Ok.is at c.label_at-read.ensures.ok) (rw c.in-Ok.is at c.label_at-read.ensures.version) (sym c.in-Ok-protocol_for.ensures) c.send_front.ensures.octet c.send_front.ensures.said
