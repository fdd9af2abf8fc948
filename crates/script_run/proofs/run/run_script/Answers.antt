use Rattle.std.proofs.Common.{refl, rules}
use Rattle.call_report.specs.Outside.{Outside}
use Rattle.call_report.specs.declared.status.Status.TheVariants.{OutOfMemory}
use Rattle.script_run.proofs.Starting.{ends_first}
use Rattle.script_run.proofs.run.run_script.Goals as goal

pub returns-in_default : goal.returns-in_default
returns-in_default g c =
    let before : Outside = record { folder = g.D.Depot.state c.args.depot.now; stream = g.S.Sink.state c.args.out.now } in
    rw c.none.ensures (ends_first c.args.script.now c.args.workers before before OutOfMemory refl (search rules))

pub returns-in-Ok-begin : goal.returns-in-Ok-begin
returns-in-Ok-begin g c = c.run_flows.ensures (g.S.Sink.state c.args.out.now) c.in-Ok-begin.ensures.1

pub returns : goal.returns
returns g c =
    let before : Outside = record { folder = g.D.Depot.state c.args.depot.now; stream = g.S.Sink.state c.args.out.now } in
    let after : Outside = record { folder = g.D.Depot.state c.args.depot.now; stream = g.S.Sink.state c.begin.new.out } in
    rw c.none-in-Err.ensures (ends_first c.args.script.now c.args.workers before after c.in-Err.status refl c.in-Err.ensures)
