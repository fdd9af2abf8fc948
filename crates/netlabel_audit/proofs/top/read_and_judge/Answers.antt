use Rattle.std.proofs.Common.{ℕ, [], Some, subst, sym}
use Rattle.script_lines.specs.Form.{with_translations}
use Rattle.label_commands.proofs.Law.{scripts_are_sound}
use Rattle.call_report.specs.CallEnds.{CallEnds}
use Rattle.call_report.specs.Outside.{Outside}
use Rattle.call_report.proofs.script_input.Law.{ends_without_script}
use Rattle.netlabel_audit.specs.Says.{audit_says}
use Rattle.netlabel_audit.proofs.Ending.{audit_reads}
use Rattle.netlabel_audit.proofs.top.read_and_judge.Goals as goal

pub judge_by-requires-clause-sound : goal.judge_by-requires-clause-sound
judge_by-requires-clause-sound g c =
    let has = rw c.as_str.ensures at c.in-Ok.ensures.ok in
    (c.args.asked.now.script, scripts_are_sound with_translations c.args.asked.now.script has.text c.in-Ok.script has.is)

pub returns-in-Ok : goal.returns-in-Ok
returns-in-Ok g c =
    let before : Outside = record { folder = g.D.Depot.state c.args.depot.now; stream = g.S.Sink.state c.args.out.now } in
    c.judge_by.ensures before (rw c.as_str.ensures at c.in-Ok.ensures.ok)

pub returns-in-Err : goal.returns-in-Err
returns-in-Err g c =
    let before : Outside = record { folder = g.D.Depot.state c.args.depot.now; stream = g.S.Sink.state c.args.out.now } in
    let after : Outside = record { folder = g.D.Depot.state c.script_of.new.depot; stream = g.S.Sink.state c.script_of.new.out } in
    subst (λ (n : ℕ). CallEnds audit_says (Some c.args.asked.now) before after n []) (sym c.number.ensures)
    (ends_without_script audit_says (Some c.args.asked.now) c.args.asked.now.script (λ e. absurd cc) (audit_reads c.args.asked.now) before after c.in-Err.status (rw c.as_str.ensures at c.in-Err.ensures.err))
