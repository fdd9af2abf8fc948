use Rattle.std.proofs.Common.{Ok, Err, refl, rules}
use Rattle.std.specs.Prelude.{Result}
use Rattle.ip_headers.specs.Packet.{ParsedPacket}
use Rattle.packet_label.specs.declared.packet.Wire.{Wire}
use Rattle.packet_label.specs.declared.fault.CarryFault.{CarryFault}
use Rattle.packet_label.specs.Packet.{headers_of, labelled}
use Rattle.packet_label.specs.Wire.{wire_with}
use Rattle.label_receive.specs.Judged.{fault_denial}
use Rattle.mls_label.proofs.octet_grammar.Octets.{octets_of}
use Rattle.label_gateway.specs.Answer.{went_on}
use Rattle.label_gateway.specs.Forward.{forward_of}
use Rattle.label_gateway.proofs.Written.{answered_in_room}
use Rattle.label_gateway.proofs.forwarding.forward_into.Goals as goal

pub returns-in-Ok : goal.returns-in-Ok
returns-in-Ok c =
    let p : ParsedPacket Wire = labelled (headers_of c.in-Ok.marked.packet) (wire_with c.in-Ok.marked.mark c.carried_into-read.new.label) in
    let read : Result (ParsedPacket Wire) CarryFault = Ok p in
    record {
      verdict = forward_of c.args.tables.now c.args.from.now c.args.to.now c.args.domain.now p;
      judged = record { read = read; reads = rw c.in-Ok.is at c.carried_into-read.ensures.ok; is = refl };
      answers = c.forward_marked.ensures.value;
      in_room = answered_in_room c.args.tables.now c.args.packet.now p (octets_of c.args.packet.now c.type_inv.packet) (rw c.in-Ok.is at c.carried_into-read.ensures.ok) (went_on c.forward_marked.new.room.local) c.args.from.now c.args.to.now c.args.domain.now
          c.forward_marked.new.room.local c.forward_marked.result c.forward_marked.new.out.items (λ v q. refl) c.forward_marked.ensures.value c.forward_marked.ensures.goes;
    }

pub returns-in-Err : goal.returns-in-Err
returns-in-Err c =
    let read : Result (ParsedPacket Wire) CarryFault = Err c.in-Err.fault in
    record {
      verdict = Err (fault_denial c.in-Err.fault);
      judged = record { read = read; reads = rw c.in-Err.is at c.carried_into-read.ensures.err; is = refl };
      answers = (search rules, c.clear.ensures.items);
      in_room = tt;
    }
