use Rattle.std.proofs.Common.{arith}
use Rattle.mls_label.proofs.Inside.{skip_apart, skip_step, take_step, fail_step, end_step, all_inside, answer_no, answer_yes}
use Rattle.mls_label.proofs.kept_runs.is_inside_by_walk.Goals.{else-cover-run-2-via-then-cover-run-2+else-run-cover, else-cover-run-2-via-else-cover-run-2}
use Rattle.mls_label.proofs.kept_runs.is_inside_by_walk.Goals as goal

pub returns-in_default-outer : goal.returns-in_default-outer
returns-in_default-outer c =
    let l = c.loop-inner in
    answer_no c.args.inner.now c.args.outer.now l.inner.now l.outer.now l.invariant.same (end_step l.inner.now l.outer.now c.in-len1-up.len_at_least c.in_default-outer.len_below l.invariant.inner)

pub loop-inner-preserved-then-cover-run : goal.loop-inner-preserved-then-cover-run
loop-inner-preserved-then-cover-run c =
    let l = c.loop-inner in
    let step = skip_step l.inner.now l.outer.now _ _ c.in-len1-up.len_at_least c.in-len1-up-outer.len_at_least l.invariant.inner c.if-cover-run.true in
    record {
      inner = l.invariant.inner;
      outer = skip_apart l.outer.now l.invariant.outer;
      same = (λ h. l.invariant.same.0 (step.0 h), λ h. step.1 (l.invariant.same.1 h));
    }

pub loop-inner-preserved : goal.loop-inner-preserved
loop-inner-preserved c =
    let l = c.loop-inner in
    let step = take_step l.inner.now l.outer.now _ _ c.in-len1-up.len_at_least c.in-len1-up-outer.len_at_least c.if-cover-run-2.true c.if-run-cover.true in
    record {
      inner = skip_apart l.inner.now l.invariant.inner;
      outer = l.invariant.outer;
      same = (λ h. l.invariant.same.0 (step.0 h), λ h. step.1 (l.invariant.same.1 h));
    }

pub returns-else-cover-run-2 : goal.returns-else-cover-run-2
returns-else-cover-run-2 c =
    let l = c.loop-inner in
    answer_no c.args.inner.now c.args.outer.now l.inner.now l.outer.now l.invariant.same (fail_step l.inner.now l.outer.now _ _ c.in-len1-up.len_at_least c.in-len1-up-outer.len_at_least l.invariant.inner l.invariant.outer c.if-cover-run.false (λ below above. elim c.else-cover-run-2.branch [
      | else-cover-run-2-via-then-cover-run-2+else-run-cover w ↦ omega (arith, w.if-cover-run-2, w.if-run-cover)
      | else-cover-run-2-via-else-cover-run-2 w ↦ omega (arith, w.if-cover-run-2)
    ]))

pub returns : goal.returns
returns c =
    let l = c.loop-inner in
    answer_yes c.args.inner.now c.args.outer.now l.inner.now l.outer.now l.invariant.same (all_inside l.inner.now l.outer.now c.in_default.len_below)
