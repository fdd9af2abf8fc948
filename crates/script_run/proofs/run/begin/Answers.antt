use Rattle.std.proofs.Common.{◌≡◌, ◌-◌, length, sym, ◌∙◌, arith, []}
use Rattle.node_tables.proofs.Law.{nodes_begin_fresh}
use Rattle.label_commands.specs.Script.{before}
use Rattle.call_report.specs.Lines.Reply.{replies_text}
use Rattle.call_report.specs.declared.status.Status.TheVariants.{OutOfMemory}
use Rattle.script_run.proofs.Handing.{printed_failing}
use Rattle.script_run.proofs.run.begin.Goals as goal

pub answer_steps-requires-clause-tables : goal.answer_steps-requires-clause-tables
answer_steps-requires-clause-tables g c = c.in-Ok.ensures ∙ sym (nodes_begin_fresh (length c.as_slice-names.result.now) c.as_slice-steps.result.now)

pub returns-in-Err : goal.returns-in-Err
returns-in-Err g c =
    let script = c.args.script.now in
    let whole : before script 0 - 0 ≡ before script 0 = omega arith in
    let hands = rw (c.as_slice-names.ensures, c.as_slice-steps.ensures, c.steps_above-upto.ensures, whole, c.new-report.ensures) at c.in-Err.ensures.replies in
    rw c.after_write.ensures
    (printed_failing (replies_text script.nodes script.steps 0 (before script 0)) [] c.answer_steps.new.report.waiting.items c.in-Err.fault OutOfMemory (g.S.Sink.state c.args.out.now) (g.S.Sink.state c.answer_steps.new.out) hands)
