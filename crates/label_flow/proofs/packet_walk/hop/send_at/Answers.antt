use Rattle.std.proofs.Common.{ap}
use Rattle.label_send.specs.Send.{Sent}
use Rattle.label_flow.specs.packet_walk.Walk.{verdict_of, goes_on}
use Rattle.label_flow.proofs.packet_walk.Lengths.{octets_short}
use Rattle.label_flow.proofs.packet_walk.Walks.{reads_back}
use Rattle.label_flow.proofs.packet_walk.hop.send_at.Goals as goal

pub returns-in-Ok : goal.returns-in-Ok
returns-in-Ok c =
    let v = c.in-Ok.ensures.value in
    let room = rw v.1 at c.in-Ok.ensures.in_room in
    (v.0, ap (verdict_of (λ (sent : Sent). goes_on sent.carrier sent.packet)) v.1, v.2, reads_back v.0 room, rw v.2 (octets_short v.0 room))
