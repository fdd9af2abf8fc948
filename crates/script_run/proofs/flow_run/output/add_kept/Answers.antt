use Rattle.std.proofs.Common.{None, Some, Ok, Err, refl}
use Rattle.net_io.specs.declared.fault.IoFault.TheVariants as io
use Rattle.script_run.specs.declared.flow_run.end.FlowStop.TheVariants as the_stop
use Rattle.script_run.proofs.flow_run.Outputs.{there_is, has_appended}
use Rattle.script_run.proofs.flow_run.output.add_kept.Goals as goal

pub add_frame-requires-clause-there : goal.add_frame-requires-clause-there
add_frame-requires-clause-there g c = there_is _ _ (g.D.Depot.state c.args.depot.now) c.text-name.ensures.text c.requires.there

pub returns-in-Ok : goal.returns-in-Ok
returns-in-Ok g c =
    let appended = rw c.text-name.ensures.text at c.in-Ok.ensures in
    has_appended (Ok c.in-Ok.field-0) None c.args.name.now _ c.args.octets.now.items _ _ _ (λ none rest is. is) appended appended.frame.appends.ok

pub returns-in-Err-Failed : goal.returns-in-Err-Failed
returns-in-Err-Failed g c =
    let appended = rw (c.in-Err-Failed.field-0-is, c.text-name.ensures.text) at c.in-Err-Failed.ensures in
    has_appended (Err io.Failed) (Some the_stop.Append) c.args.name.now _ c.args.octets.now.items _ _ _ (λ none. absurd cc) appended (c.args.name.now, refl, appended.frame.appends.cause refl)

pub returns-in-Err-OutOfMemory : goal.returns-in-Err-OutOfMemory
returns-in-Err-OutOfMemory g c =
    let appended = rw (c.in-Err-OutOfMemory.field-0-is, c.text-name.ensures.text) at c.in-Err-OutOfMemory.ensures in
    has_appended (Err io.OutOfMemory) (Some the_stop.OutOfMemory) c.args.name.now _ c.args.octets.now.items _ _ _ (λ none. absurd cc) appended (appended.frame.appends.still (λ failed. absurd cc))
