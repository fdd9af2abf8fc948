use Rattle.ripso_border.proofs.OutSteps.{crosses_read, crosses_fault}
use Rattle.ripso_border.proofs.leaving.cross_out.Goals as goal

pub returns-in-Ok : goal.returns-in-Ok
returns-in-Ok c =
    crosses_read c.args.border.now.definition.now c.args.border.now.doi c.args.octets.now _ c.leave.result c.leave.new.out.items (rw c.in-Ok.is at c.carried_into-read.ensures.ok) c.leave.ensures

pub returns-in-Err : goal.returns-in-Err
returns-in-Err c =
    rw (c.denied.ensures.stop, c.fault_denial.ensures)
    (crosses_fault c.args.border.now.definition.now c.args.border.now.doi c.args.octets.now c.in-Err.fault c.denied.new.out.items (rw c.in-Err.is at c.carried_into-read.ensures.err) c.denied.ensures.empty)
