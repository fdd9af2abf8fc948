use Rattle.label_flow.proofs.packet_walk.Walks.{some_read}
use Rattle.label_flow.proofs.packet_walk.hop.hop_into.Goals as goal

pub returns-in-Send : goal.returns-in-Send
returns-in-Send c =
    let some = some_read c.args.packet.now in
    let answered = rw (c.tables_of-tables.ensures, c.label.ensures) at c.send_at.ensures in
    rw c.in-Send.is (record { read = some.0; reads = some.1; answered = answered })

pub returns-in-Receive : goal.returns-in-Receive
returns-in-Receive c = rw c.in-Receive.is (rw c.tables_of-in-Receive.ensures at (c.receive_at.ensures c.args.out.now.items))
