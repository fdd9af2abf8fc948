use Rattle.std.proofs.Common.{ℕ, subst, sym, ap, [], ◌∷◌, Some}
use Rattle.net_io.specs.Depot.{DepotState}
use Rattle.net_io.specs.Sink.{SinkState}
use Rattle.script_lines.specs.Form.{with_translations}
use Rattle.label_commands.proofs.Law.{scripts_are_sound}
use Rattle.call_report.specs.Outside.{Outside}
use Rattle.call_report.specs.Report.{Versions}
use Rattle.call_report.specs.Status.{status_number}
use Rattle.script_run.specs.Ends.{ScriptEnds}
use Rattle.netlabel_run.specs.declared.command.Command.TheVariants.{Run}
use Rattle.call_report.specs.CallEnds.{CallEnds}
use Rattle.netlabel_run.specs.Commands.{netlabel_says}
use Rattle.netlabel_run.proofs.Running.{run_reads, run_ends}
use Rattle.call_report.specs.Stages.{reading_stage}
use Rattle.call_report.proofs.Law.{ends_unprinted}
use Rattle.call_report.proofs.script_input.Law.{ends_without_script}
use Rattle.netlabel_run.proofs.run.run.Goals as goal

pub run_flows-requires-clause-sound : goal.run_flows-requires-clause-sound
run_flows-requires-clause-sound g c κs within =
    (c.args.file.now, scripts_are_sound with_translations c.args.file.now c.in-Ok.ensures.ok.text c.in-Ok.script c.in-Ok.ensures.ok.is)

pub returns-in-Ok-protect_read : goal.returns-in-Ok-protect_read
returns-in-Ok-protect_read g c =
    let file = c.args.file.now in
    let has = c.in-Ok.ensures.ok in
    let before : Outside = record { folder = g.D.Depot.state c.args.depot.now; stream = g.S.Sink.state c.args.out.now } in
    let folder = g.D.Depot.state c.script_of.new.depot in
    let after : Outside = record { folder = g.D.Depot.state c.run_flows.new.depot; stream = g.S.Sink.state c.run_flows.new.out } in
    let ended = c.run_flows.ensures in
    let from_folder = subst (λ (f : DepotState). ScriptEnds c.in-Ok.script c.args.workers (record { folder = f; stream = g.S.Sink.state c.script_of.new.out }) after c.run_flows.result.seen ended.0)
    c.protect_read.ensures ended.2 in
    let ends = subst (λ (s : SinkState). ScriptEnds c.in-Ok.script c.args.workers (record { folder = folder; stream = s }) after c.run_flows.result.seen ended.0) has.stream from_folder in
    subst (λ (n : ℕ). CallEnds netlabel_says (Some (Run file c.args.workers)) before after n c.run_flows.result.seen) (sym ended.1)
    (run_ends file c.args.workers before folder after has.text c.in-Ok.script c.run_flows.result.seen ended.0 has.reads has.counts has.holds has.is ends)

pub returns-in-Ok : goal.returns-in-Ok
returns-in-Ok g c =
    let file = c.args.file.now in
    let has = c.in-Ok.ensures.ok in
    let before : Outside = record { folder = g.D.Depot.state c.args.depot.now; stream = g.S.Sink.state c.args.out.now } in
    let stream = g.S.Sink.state c.script_of.new.out in
    let read : Outside = record { folder = g.D.Depot.state c.script_of.new.depot; stream = stream } in
    let after : Outside = record { folder = g.D.Depot.state c.protect_read.new.depot; stream = stream } in
    let asked = Some (Run file c.args.workers) in
    let ends = ends_unprinted netlabel_says asked before read (reading_stage file ∷ []) ((run_reads file c.args.workers).knows before read has.reads (ap (λ (s : SinkState). s.tells) has.stream)) has.counts has.stream in
    subst (λ (n : ℕ). CallEnds netlabel_says asked before after n c.without_flows.result.seen) (sym c.without_flows.ensures.status)
    (subst (λ (seen : Versions). CallEnds netlabel_says asked before after 6 seen) (sym c.without_flows.ensures.seen)
    (subst (λ (f : DepotState). CallEnds netlabel_says asked before (record { folder = f; stream = stream }) 6 []) (sym c.protect_read.ensures) ends))

pub returns : goal.returns
returns g c =
    let file = c.args.file.now in
    let before : Outside = record { folder = g.D.Depot.state c.args.depot.now; stream = g.S.Sink.state c.args.out.now } in
    let after : Outside = record { folder = g.D.Depot.state c.script_of.new.depot; stream = g.S.Sink.state c.script_of.new.out } in
    let asked = Some (Run file c.args.workers) in
    subst (λ (n : ℕ). CallEnds netlabel_says asked before after n c.without_flows-in-Err.result.seen) (sym c.without_flows-in-Err.ensures.status)
    (subst (λ (seen : Versions). CallEnds netlabel_says asked before after (status_number c.in-Err.status) seen) (sym c.without_flows-in-Err.ensures.seen) (ends_without_script netlabel_says asked file (λ e. cc) (run_reads file c.args.workers) before after c.in-Err.status c.in-Err.ensures.err))
