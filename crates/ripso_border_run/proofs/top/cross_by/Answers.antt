use Rattle.std.proofs.Common.{refl, sym, subst, ◌∙◌}
use Rattle.net_io.specs.Depot.{DepotState}
use Rattle.call_report.specs.Outside.{Outside}
use Rattle.ripso_border_run.specs.Lines.{name_twice_line, no_doi_line}
use Rattle.ripso_border_run.specs.inside.Course.{IsUnmoved}
use Rattle.ripso_border_run.proofs.Planning.{definition_is, twice_is, undefined_is, planned, ends_line, ends_memory}
use Rattle.ripso_border_run.proofs.top.cross_by.Goals as goal

pub returns-then-twice : goal.returns-then-twice
returns-then-twice g c before text holds is same stream =
    let task = c.args.task.now in
    let start : Outside = record { folder = g.D.Depot.state c.args.depot.now; stream = g.S.Sink.state c.args.out.now } in
    let after : Outside = record { folder = g.D.Depot.state c.args.depot.now; stream = g.S.Sink.state c.end.new.out } in
    ends_line task before start after same stream refl name_twice_line c.end.result
    (twice_is task before text c.args.script.now holds is (sym c.is_named_twice-twice.ensures ∙ c.if-twice.true))
    (rw (c.new.ensures, c.name_twice.ensures) at c.end.ensures)

pub returns-in-Err : goal.returns-in-Err
returns-in-Err g c before text holds is same stream =
    let start : Outside = record { folder = g.D.Depot.state c.args.depot.now; stream = g.S.Sink.state c.args.out.now } in
    ends_memory c.args.task.now before start start same stream refl refl

pub returns-in-None : goal.returns-in-None
returns-in-None g c before text holds is same stream =
    let task = c.args.task.now in
    let start : Outside = record { folder = g.D.Depot.state c.args.depot.now; stream = g.S.Sink.state c.args.out.now } in
    let after : Outside = record { folder = g.D.Depot.state c.args.depot.now; stream = g.S.Sink.state c.end-in-None.new.out } in
    ends_line task before start after same stream refl no_doi_line c.end-in-None.result
    (undefined_is task before text c.args.script.now holds is (sym c.is_named_twice-twice.ensures ∙ c.if-twice.false)
    (definition_is c.args.script.now task.doi c.in-Ok.ensures (c.get-doi.ensures.number ∙ c.doi.ensures) (rw c.in-None.is at c.first_definition.ensures)))
    (rw (c.new-in-None.ensures, c.no_doi.ensures) at c.end-in-None.ensures)

pub returns-in-Ok-protect_read : goal.returns-in-Ok-protect_read
returns-in-Ok-protect_read g c before text holds is same stream =
    let task = c.args.task.now in
    let once = sym c.is_named_twice-twice.ensures ∙ c.if-twice.false in
    let defined = definition_is c.args.script.now task.doi c.in-Ok.ensures (c.get-doi.ensures.number ∙ c.doi.ensures) c.in-Some.ensures in
    c.cross_capture.ensures before (planned task before text c.args.script.now holds is once _ defined)
    (subst (λ (d : DepotState). IsUnmoved before.folder d) (sym c.protect_read.ensures) same) stream

pub returns : goal.returns
returns g c before text holds is same stream =
    let start : Outside = record { folder = g.D.Depot.state c.args.depot.now; stream = g.S.Sink.state c.args.out.now } in
    let after : Outside = record { folder = g.D.Depot.state c.protect_read.new.depot; stream = g.S.Sink.state c.args.out.now } in
    ends_memory c.args.task.now before start after same stream c.protect_read.ensures refl
