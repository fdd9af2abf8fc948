use Rattle.std.proofs.Common.{◌≡◌, ◌+◌, ◌-◌, ap, sym, subst, arith}
use Rattle.std.proofs.lemmas.Result.{err_from_is_err_and}
use Rattle.call_report.specs.Lines.Reply.{reply_line_at}
use Rattle.script_run.proofs.Answering.{IsReplying, replying_start, replying_all, replying_next, replying_fails}
use Rattle.script_run.proofs.replies.answer_steps.Goals as goal

pub loop-place-init : goal.loop-place-init
loop-place-init g c =
    let none : 0 ≡ c.args.from - c.args.from = omega arith in
    let waits = c.args.report.now.waiting.items in
    let stream = g.S.Sink.state c.args.out.now in
    let start = replying_start c.args.names.now c.args.steps.now c.args.from (c.args.upto - c.args.from) waits stream in
    record {
      low = omega arith;
      within = c.requires.between.0;
      tables = c.requires.tables;
      replying = subst (λ k. IsReplying c.args.names.now c.args.steps.now c.args.from (c.args.upto - c.args.from) waits k waits stream stream) none start;
    }

pub returns-in_err-answer_step-clause-replies : goal.returns-in_err-answer_step-clause-replies
returns-in_err-answer_step-clause-replies g c =
    let names = c.args.names.now in
    let steps = c.args.steps.now in
    let from = c.args.from in
    let place = c.loop-place.place in
    let inv = c.loop-place.invariant in
    let here : place ≡ from + (place - from) = omega (arith, inv.low) in
    let p = err_from_is_err_and c.from_residual.result c.from_residual.ensures.1 in
    rw (p.1, p.2)
    (replying_fails names steps from (c.args.upto - from) c.args.report.now.waiting.items (place - from) c.loop-place.report.waiting.items (g.S.Sink.state c.args.out.now) (g.S.Sink.state c.loop-place.out) inv.replying
    (omega (arith, c.loop-place-test.true, inv.low)) (reply_line_at names steps place) c.answer_step.new.report.waiting.items (ap (reply_line_at names steps) here) (g.S.Sink.state c.answer_step.new.out)
    c.in_err-answer_step.field-0.0 c.in_err-answer_step.ensures.replied)

pub loop-place-preserved : goal.loop-place-preserved
loop-place-preserved g c =
    let names = c.args.names.now in
    let steps = c.args.steps.now in
    let from = c.args.from in
    let place = c.loop-place.place in
    let inv = c.loop-place.invariant in
    let here : place ≡ from + (place - from) = omega (arith, inv.low) in
    let further : place - from + 1 ≡ place + 1 - from = omega (arith, inv.low) in
    let next = replying_next names steps from (c.args.upto - from) c.args.report.now.waiting.items (place - from) c.loop-place.report.waiting.items (g.S.Sink.state c.args.out.now) (g.S.Sink.state c.loop-place.out) inv.replying
    (omega (arith, c.loop-place-test.true, inv.low)) (reply_line_at names steps place) c.answer_step.new.report.waiting.items (ap (reply_line_at names steps) here) (g.S.Sink.state c.answer_step.new.out) c.in_ok-answer_step.ensures.replied in
    record {
      low = omega (arith, inv.low);
      within = omega (arith, c.loop-place-test.true);
      tables = c.in_ok-answer_step.ensures.applied;
      replying = subst (λ k. IsReplying names steps from (c.args.upto - from) c.args.report.now.waiting.items k c.answer_step.new.report.waiting.items (g.S.Sink.state c.args.out.now) (g.S.Sink.state c.answer_step.new.out)) further next;
    }

pub returns-clause-replies : goal.returns-clause-replies
returns-clause-replies g c =
    let inv = c.loop-place.invariant in
    replying_all c.args.names.now c.args.steps.now c.args.from (c.args.upto - c.args.from) c.args.report.now.waiting.items (c.loop-place.place - c.args.from) c.loop-place.report.waiting.items (g.S.Sink.state c.args.out.now)
    (g.S.Sink.state c.loop-place.out) inv.replying (omega (arith, c.loop-place-test.false, inv.within))

pub returns-clause-tables : goal.returns-clause-tables
returns-clause-tables g c =
    let last : c.loop-place.place ≡ c.args.upto = omega (arith, c.loop-place-test.false, c.loop-place.invariant.within) in
    rw last at c.loop-place.invariant.tables
