use Rattle.std.proofs.Common.{Ok, Err, ap}
use Rattle.packet_label.specs.Packet.{labelled, headers_of}
use Rattle.packet_label.specs.Wire.{wire_with}
use Rattle.netlabel_run.proofs.Judging.{judged}
use Rattle.netlabel_run.proofs.verdict.judge_packet.Goals as goal

pub returns-in-Err : goal.returns-in-Err
returns-in-Err c = record { read = Err c.in-Err.fault; reads = c.in-Err.ensures.err; is = ap Err c.fault_denial.ensures }

pub returns-in-Ok-received : goal.returns-in-Ok-received
returns-in-Ok-received c =
    let p = labelled (headers_of c.in-Ok.marked.packet) (wire_with c.in-Ok.marked.mark c.carried_into.new.label) in
    record { read = Ok p; reads = c.in-Ok.ensures.ok; is = judged c.args.doi c.args.level.now p _ _ _ _ c.in_ok-network.ensures c.node.ensures c.fixed_name-interface.ensures c.in-Ok-received.ensures }

pub returns : goal.returns
returns c =
    let p = labelled (headers_of c.in-Ok.marked.packet) (wire_with c.in-Ok.marked.mark c.carried_into.new.label) in
    record { read = Ok p; reads = c.in-Ok.ensures.ok; is = judged c.args.doi c.args.level.now p _ _ _ _ c.in_ok-network.ensures c.node.ensures c.fixed_name-interface.ensures c.in-Err-received.ensures }
