use Rattle.std.proofs.Common.{get_or, arith}
use Rattle.std.proofs.lemmas.List.{get_or_default}
use Rattle.mls_label.specs.declared.cat_set.Run.{Run}
use Rattle.mls_label.proofs.Inside.{count_more, count_bound}
use Rattle.mls_label.proofs.Splice.{apart_at}
use Rattle.mls_label.proofs.kept_runs.count_of.Goals as goal

none : Run
none = record { first = 0; last = 0 }

pub overflow_sub-run : goal.overflow_sub-run
overflow_sub-run c = (apart_at 0 c.args.runs.now c.loop-run.run-index _ c.requires c.loop-run-test.true).1

pub overflow_add-count-in-loop-run : goal.overflow_add-count-in-loop-run
unfolding none
overflow_add-count-in-loop-run c =
    let runs = c.args.runs.now in
    let i = c.loop-run.run-index in
    let r = get_or runs i none in
    let order = apart_at 0 runs i none c.requires c.loop-run-test.true in
    let more = count_more runs i r c.loop-run-test.true (get_or_default runs i none r c.loop-run-test.true) in
    omega (arith, order, more, count_bound runs c.requires, c.from.ensures, c.loop-run.invariant)

pub loop-run-preserved : goal.loop-run-preserved
unfolding none
loop-run-preserved c =
    let runs = c.args.runs.now in
    let i = c.loop-run.run-index in
    let r = get_or runs i none in
    let order = apart_at 0 runs i none c.requires c.loop-run-test.true in
    let more = count_more runs i r c.loop-run-test.true (get_or_default runs i none r c.loop-run-test.true) in
    omega (arith, order, more, c.from.ensures, c.loop-run.invariant)
