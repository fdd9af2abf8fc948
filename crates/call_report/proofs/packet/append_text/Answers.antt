use Rattle.std.proofs.Common.{Ok, Err}
use Rattle.packet_label.specs.declared.fault.CarryFault.TheVariants as carry
use Rattle.packet_label.specs.Packet.{labelled, headers_of}
use Rattle.packet_label.specs.Wire.{wire_with}
use Rattle.call_report.proofs.Shown.{shows_packet}
use Rattle.call_report.proofs.packet.append_text.Goals as goal

pub returns-in-Ok-clause-ok : goal.returns-in-Ok-clause-ok
returns-in-Ok-clause-ok c =
    let marked = c.in-Ok.marked in
    shows_packet c.append_option.result c.args.packet.now c.as_slice.result.now c.args.line.now.items c.append_option.new.line.items
    (Ok (labelled (headers_of marked.packet) (wire_with marked.mark c.carried_into.new.label))) c.if-not-packet.false c.as_slice.ensures c.in-Ok.ensures.ok c.append_option.ensures.ok

pub returns-in-Err-Header-clause-ok : goal.returns-in-Err-Header-clause-ok
returns-in-Err-Header-clause-ok c =
    shows_packet c.append_fault.result c.args.packet.now c.as_slice.result.now c.args.line.now.items c.append_fault.new.line.items
    (Err (carry.Header c.in-Err-Header.octet)) c.if-not-packet.false c.as_slice.ensures (rw c.in-Err-Header.field-0-is at c.in-Err-Header.ensures.err) c.append_fault.ensures.ok

pub returns-in-Err-Option-clause-ok : goal.returns-in-Err-Option-clause-ok
returns-in-Err-Option-clause-ok c =
    shows_packet c.append_fault-in-Err-Option.result c.args.packet.now c.as_slice.result.now c.args.line.now.items c.append_fault-in-Err-Option.new.line.items
    (Err (carry.Option c.in-Err-Option.octet)) c.if-not-packet.false c.as_slice.ensures (rw c.in-Err-Option.field-0-is at c.in-Err-Option.ensures.err) c.append_fault-in-Err-Option.ensures.ok
