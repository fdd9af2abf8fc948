use Rattle.std.proofs.Common.{refl}
use Rattle.call_report.specs.Outside.{Outside}
use Rattle.script_run.proofs.flow_run.Ending.{read_of, ends_lineless, ends_unbegun}
use Rattle.script_run.proofs.flow_run.run.run_flow.Goals as goal

pub returns-in_default : goal.returns-in_default
returns-in_default g c = rw c.new-none.ensures (ends_lineless _ _ _ _ _ _ _ _ _ _ _ c.requires.stands.beside.0 refl refl)

pub returns-in-Ok-begin_source : goal.returns-in-Ok-begin_source
returns-in-Ok-begin_source g c =
    let before : Outside = record { folder = g.D.Depot.state c.args.depot.now; stream = g.S.Sink.state c.args.out.now } in
    let clauses = c.in-Ok-begin_source.ensures in
    c.run_source.ensures before c.args.report.now.waiting.items
    (read_of c.args.place.now.flow.now c.args.place.now.most before.folder _ c.in-Ok-begin_source.source clauses.fresh clauses.fed clauses.begun clauses.frame)
    refl (rw c.from.ensures at c.in-Ok.ensures.ok)

pub returns-in-Err : goal.returns-in-Err
returns-in-Err g c =
    let clauses = c.in-Err.ensures in
    rw (c.new-none.ensures, c.end_at.ensures)
    (ends_unbegun _ _ _ _ _ _ c.args.place.now.flow.now _ _ _ _ c.in-Err.stop c.requires.stands.beside.0 (rw c.from.ensures at c.in-Ok.ensures.ok) refl clauses.stops clauses.frame)
