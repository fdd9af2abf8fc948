use Rattle.std.proofs.Common.{refl, Some}
use Rattle.script_lines.specs.Form.{with_translations}
use Rattle.label_commands.proofs.Law.{scripts_are_sound}
use Rattle.call_report.specs.Outside.{Outside}
use Rattle.call_report.specs.script_input.Answer.{HopsAnswer}
use Rattle.call_report.proofs.script_input.Law.{ends_answered, ends_without_script}
use Rattle.netlabel_run.specs.declared.command.Command.TheVariants.{Agree}
use Rattle.netlabel_run.specs.Agree.{IsFound, agree_text}
use Rattle.netlabel_run.specs.Commands.{netlabel_says}
use Rattle.netlabel_run.proofs.Agreeing.{agreement_answers, agree_reads}
use Rattle.netlabel_run.proofs.agree.agree.Goals as goal

pub answer_hops-requires : goal.answer_hops-requires
answer_hops-requires g c = (c.args.file.now, scripts_are_sound with_translations c.args.file.now c.in-Ok.ensures.ok.text c.in-Ok.script c.in-Ok.ensures.ok.is)

pub returns-in-Ok : goal.returns-in-Ok
returns-in-Ok g c =
    let file = c.args.file.now in
    let number = c.args.flow in
    let named = c.args.versions.now in
    let before : Outside = record { folder = g.D.Depot.state c.args.depot.now; stream = g.S.Sink.state c.args.out.now } in
    let mid : Outside = record { folder = g.D.Depot.state c.script_of.new.depot; stream = g.S.Sink.state c.script_of.new.out } in
    let after : Outside = record { folder = g.D.Depot.state c.script_of.new.depot; stream = g.S.Sink.state c.answer_hops.new.out } in
    ends_answered netlabel_says (Some (Agree file number named)) (HopsAnswer IsFound agree_text number named) file (λ e. cc) (λ P p. p) (agreement_answers number named)
    before after c.in-Ok.script mid c.answer_hops.result c.in-Ok.ensures.ok refl c.answer_hops.ensures

pub returns-in-Err : goal.returns-in-Err
returns-in-Err g c =
    let file = c.args.file.now in
    let before : Outside = record { folder = g.D.Depot.state c.args.depot.now; stream = g.S.Sink.state c.args.out.now } in
    let after : Outside = record { folder = g.D.Depot.state c.script_of.new.depot; stream = g.S.Sink.state c.script_of.new.out } in
    ends_without_script netlabel_says (Some (Agree file c.args.flow c.args.versions.now)) file (λ e. cc) (agree_reads file c.args.flow c.args.versions.now)
    before after c.in-Err.status c.in-Err.ensures.err
