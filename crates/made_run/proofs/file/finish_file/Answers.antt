use Rattle.std.proofs.Common.{None, Some, Ok, Err, refl}
use Rattle.net_io.specs.declared.fault.IoFault.TheVariants as io
use Rattle.made_run.specs.declared.stop.MadeStop.TheVariants.{Append, OutOfMemory}
use Rattle.made_run.proofs.Sends.{has_sent}
use Rattle.made_run.proofs.file.finish_file.Goals as goal

pub returns-in-Ok : goal.returns-in-Ok
returns-in-Ok g c =
    let clauses = c.in-Ok.ensures in
    has_sent (Ok c.in-Ok.field-0) None c.args.name.now c.args.waiting.now.items _ _ _ (λ none rest is. is) (λ none. clauses.empty) clauses.appended clauses.appended.frame.appends.ok

pub returns-in-Err-Failed : goal.returns-in-Err-Failed
returns-in-Err-Failed g c =
    let clauses = rw c.in-Err-Failed.field-0-is at c.in-Err-Failed.ensures in
    has_sent (Err io.Failed) (Some Append) c.args.name.now c.args.waiting.now.items _ _ _ (λ none. absurd cc) (λ none. absurd cc) clauses.appended (clauses.appended.frame.appends.cause refl)

pub returns-in-Err-OutOfMemory : goal.returns-in-Err-OutOfMemory
returns-in-Err-OutOfMemory g c =
    let clauses = rw c.in-Err-OutOfMemory.field-0-is at c.in-Err-OutOfMemory.ensures in
    has_sent (Err io.OutOfMemory) (Some OutOfMemory) c.args.name.now c.args.waiting.now.items _ _ _ (λ none. absurd cc) (λ none. absurd cc) clauses.appended (clauses.appended.frame.appends.still (λ failed. absurd cc))
