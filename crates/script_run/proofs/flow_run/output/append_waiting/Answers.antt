use Rattle.std.proofs.Common.{None, Some, Ok, Err, refl}
use Rattle.net_io.specs.declared.fault.IoFault.TheVariants as io
use Rattle.script_run.specs.declared.flow_run.end.FlowStop.TheVariants as the_stop
use Rattle.script_run.proofs.flow_run.Outputs.{there_is, has_appended}
use Rattle.script_run.proofs.flow_run.output.append_waiting.Goals as goal

pub finish_capture-requires : goal.finish_capture-requires
finish_capture-requires g c = there_is _ _ (g.D.Depot.state c.args.depot.now) c.text.ensures.text c.requires

pub returns-in-Ok-clause-appended : goal.returns-in-Ok-clause-appended
returns-in-Ok-clause-appended g c =
    let clauses = rw c.text.ensures.text at c.in-Ok.ensures in
    has_appended (Ok c.in-Ok.field-0) None c.args.name.now _ c.args.octets.now.items _ _ _ (λ none rest is. is) clauses.appended clauses.appended.frame.appends.ok

pub returns-in-Err-Failed-clause-appended : goal.returns-in-Err-Failed-clause-appended
returns-in-Err-Failed-clause-appended g c =
    let clauses = rw (c.in-Err-Failed.field-0-is, c.text.ensures.text) at c.in-Err-Failed.ensures in
    has_appended (Err io.Failed) (Some the_stop.Append) c.args.name.now _ c.args.octets.now.items _ _ _ (λ none. absurd cc) clauses.appended (c.args.name.now, refl, clauses.appended.frame.appends.cause refl)

pub returns-in-Err-OutOfMemory-clause-appended : goal.returns-in-Err-OutOfMemory-clause-appended
returns-in-Err-OutOfMemory-clause-appended g c =
    let clauses = rw (c.in-Err-OutOfMemory.field-0-is, c.text.ensures.text) at c.in-Err-OutOfMemory.ensures in
    has_appended (Err io.OutOfMemory) (Some the_stop.OutOfMemory) c.args.name.now _ c.args.octets.now.items _ _ _ (λ none. absurd cc) clauses.appended (clauses.appended.frame.appends.still (λ failed. absurd cc))
