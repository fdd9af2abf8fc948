use Rattle.std.proofs.Common.{Ok, Err, refl}
use Rattle.packet_label.specs.declared.packet.Wire.TheVariants.{Cipso}
use Rattle.netlabel_codec.proofs.option.read_cipso.Goals as goal

pub returns-in-Ok-clause-tells : goal.returns-in-Ok-clause-tells
returns-in-Ok-clause-tells c = record {
  answer = Ok (Cipso 0 c.in-Ok.head.doi c.in-Ok.head.tag c.read_cipso_into.new.label, c.in-Ok.head.length);
  reads = record { within = c.in-Ok.ensures.ok.within; is = (refl, c.in-Ok.ensures.ok.member) };
  tells = c.tell_option.ensures.tells;
}

pub returns-in-Err-clause-tells : goal.returns-in-Err-clause-tells
returns-in-Err-clause-tells c =
    record { answer = Err c.in-Err.fault.octet; reads = (c.in-Err.fault.kind, c.in-Err.ensures.err); tells = c.tell_fault.ensures.tells c.args.runs.now }
