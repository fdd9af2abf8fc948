use Rattle.std.proofs.Common.{subst, [], Some}
use Rattle.net_io.specs.Sink.{SinkState}
use Rattle.script_lines.specs.Form.{with_translations}
use Rattle.label_commands.proofs.Law.{scripts_are_sound}
use Rattle.call_report.specs.declared.status.Status.TheVariants.{Done}
use Rattle.call_report.specs.Outside.{Outside}
use Rattle.call_report.specs.Printing.{Printed}
use Rattle.netlabel_run.specs.declared.command.Command.TheVariants.{Check}
use Rattle.netlabel_run.specs.Check.{check_text}
use Rattle.call_report.proofs.script_input.Law.{ends_without_script}
use Rattle.netlabel_run.specs.Commands.{netlabel_says}
use Rattle.netlabel_run.proofs.Checking.{check_reads, ends_checked}
use Rattle.netlabel_run.proofs.check.check.Goals as goal

pub print_script-requires : goal.print_script-requires
print_script-requires g c = (scripts_are_sound with_translations c.args.file.now c.in-Ok.ensures.ok.text c.in-Ok.script c.in-Ok.ensures.ok.is).step_nodes

pub returns-in-Ok : goal.returns-in-Ok
returns-in-Ok g c =
    let file = c.args.file.now in
    let has = c.in-Ok.ensures.ok in
    let before : Outside = record { folder = g.D.Depot.state c.args.depot.now; stream = g.S.Sink.state c.args.out.now } in
    let after : Outside = record { folder = g.D.Depot.state c.script_of.new.depot; stream = g.S.Sink.state c.print_script.new.out } in
    let printed : Printed (check_text c.in-Ok.script) [] Done c.print_script.result before.stream after.stream = subst (λ (s : SinkState). Printed (check_text c.in-Ok.script) [] Done c.print_script.result s after.stream) has.stream c.print_script.ensures in
    ends_checked file before after has.text c.in-Ok.script c.print_script.result has.reads printed.told has.counts has.holds has.is printed

pub returns-in-Err : goal.returns-in-Err
returns-in-Err g c =
    let before : Outside = record { folder = g.D.Depot.state c.args.depot.now; stream = g.S.Sink.state c.args.out.now } in
    let after : Outside = record { folder = g.D.Depot.state c.script_of.new.depot; stream = g.S.Sink.state c.script_of.new.out } in
    ends_without_script netlabel_says (Some (Check c.args.file.now)) c.args.file.now (λ e. cc) (check_reads c.args.file.now) before after c.in-Err.status c.in-Err.ensures.err
