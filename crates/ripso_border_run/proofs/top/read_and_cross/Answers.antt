use Rattle.script_lines.specs.Form.{with_translations}
use Rattle.label_commands.proofs.Law.{scripts_are_sound}
use Rattle.call_report.specs.Outside.{Outside}
use Rattle.ripso_border_run.proofs.Planning.{ends_scriptless, unmoved_by}
use Rattle.ripso_border_run.proofs.top.read_and_cross.Goals as goal

pub cross_by-requires : goal.cross_by-requires
cross_by-requires g c = (scripts_are_sound with_translations c.args.task.now.script c.in-Ok.ensures.ok.text c.in-Ok.script (rw c.as_str.ensures at c.in-Ok.ensures.ok.is)).step_nodes

pub returns-in-Ok : goal.returns-in-Ok
returns-in-Ok g c =
    let before : Outside = record { folder = g.D.Depot.state c.args.depot.now; stream = g.S.Sink.state c.args.out.now } in
    let mid : Outside = record { folder = g.D.Depot.state c.script_of.new.depot; stream = g.S.Sink.state c.script_of.new.out } in
    let has = rw c.as_str.ensures at c.in-Ok.ensures.ok in
    c.cross_by.ensures before has.text has.holds has.is (unmoved_by c.args.task.now.script before mid c.in-Ok.script has) has.stream

pub returns-in-Err : goal.returns-in-Err
returns-in-Err g c =
    let ended = rw c.as_str.ensures at c.in-Err.ensures.err in
    ends_scriptless c.args.task.now _ _ ended.reads c.in-Err.status ended
