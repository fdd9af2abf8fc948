use Rattle.std.proofs.Common.{Ok, Err, sym, ap}
use Rattle.packet_label.specs.Packet.{headers_of, labelled}
use Rattle.packet_label.specs.Wire.{wire_with}
use Rattle.label_receive.proofs.receiving.receive_into.Goals as goal

pub returns-in-Ok : goal.returns-in-Ok
returns-in-Ok c =
    record {
      read = Ok (labelled (headers_of c.in-Ok.marked.packet) (wire_with c.in-Ok.marked.mark c.carried_into-read.new.label));
      reads = rw c.in-Ok.is at c.carried_into-read.ensures.ok;
      is = sym c.receive_marked.ensures;
    }

pub returns-in-Err : goal.returns-in-Err
returns-in-Err c = record { read = Err c.in-Err.fault; reads = rw c.in-Err.is at c.carried_into-read.ensures.err; is = ap Err c.fault_denial.ensures }
