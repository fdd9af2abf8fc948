use Rattle.std.proofs.Common.{◌≡◌, ◌-◌, [], length, sym, ◌∙◌, arith}
use Rattle.node_tables.proofs.Law.{nodes_begin_fresh}
use Rattle.call_report.specs.Lines.Reply.{replies_text}
use Rattle.call_report.specs.Lines.Script.{ok_line}
use Rattle.call_report.specs.declared.status.Status.TheVariants.{Done}
use Rattle.call_report.proofs.Law.{a_text_begins_a_report, a_failing_text_ends_a_report}
use Rattle.netlabel_run.proofs.check.print_script.Goals as goal

pub answer_steps-requires-clause-tables : goal.answer_steps-requires-clause-tables
answer_steps-requires-clause-tables g c = c.in-Ok.ensures ∙ sym (nodes_begin_fresh (length c.as_slice-names.result.now) c.as_slice-steps.result.now)

pub returns-in-Ok-answer_steps : goal.returns-in-Ok-answer_steps
returns-in-Ok-answer_steps g c =
    let script = c.args.script.now in
    let all : length script.steps - 0 ≡ length script.steps = omega arith in
    let hands = rw (c.as_slice-names.ensures, c.as_slice-steps.ensures, all, c.new-report.ensures) at c.in-Ok-answer_steps.ensures.replies in
    a_text_begins_a_report (replies_text script.nodes script.steps 0 (length script.steps)) (ok_line (length script.nodes) (length script.steps) (length script.flows)) c.answer_steps.new.report.waiting.items []
    c.in-Ok-answer_steps.field-0 Done c.end_checked.result (g.S.Sink.state c.args.out.now) (g.S.Sink.state c.answer_steps.new.out) (g.S.Sink.state c.end_checked.new.out) hands c.end_checked.ensures

pub returns : goal.returns
returns g c =
    let script = c.args.script.now in
    let all : length script.steps - 0 ≡ length script.steps = omega arith in
    let hands = rw (c.as_slice-names.ensures, c.as_slice-steps.ensures, all, c.new-report.ensures) at c.in-Err-answer_steps.ensures.replies in
    rw c.after_write.ensures
    (a_failing_text_ends_a_report (replies_text script.nodes script.steps 0 (length script.steps)) (ok_line (length script.nodes) (length script.steps) (length script.flows)) c.answer_steps.new.report.waiting.items []
    c.in-Err-answer_steps.fault Done (g.S.Sink.state c.args.out.now) (g.S.Sink.state c.answer_steps.new.out) hands)
