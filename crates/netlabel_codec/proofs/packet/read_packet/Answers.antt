use Rattle.std.proofs.Common.{Ok, Err}
use Rattle.packet_label.specs.Packet.{headers_of, labelled}
use Rattle.packet_label.specs.Wire.{wire_with}
use Rattle.netlabel_codec.proofs.packet.read_packet.Goals as goal

pub returns-in-Ok-clause-tells : goal.returns-in-Ok-clause-tells
returns-in-Ok-clause-tells c = record {
  answer = Ok (labelled (headers_of c.in-Ok.marked.packet) (wire_with c.in-Ok.marked.mark c.carried_into.new.label));
  reads = c.in-Ok.ensures.ok;
  tells = c.tell_mark.ensures.tells;
}

pub returns-in-Err-clause-tells : goal.returns-in-Err-clause-tells
returns-in-Err-clause-tells c =
    record { answer = Err c.in-Err.fault; reads = c.in-Err.ensures.err; tells = c.tell_fault.ensures.tells c.args.runs.now }
