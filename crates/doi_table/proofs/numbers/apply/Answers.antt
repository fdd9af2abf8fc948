use Rattle.std.proofs.Common.{◌≡◌, length, ap, arith}
use Rattle.std.proofs.lemmas.Result.{err_from_is_err_and}
use Rattle.mls_label.specs.Runs.{runs_of}
use Rattle.doi_table.proofs.Walks.{through_start, through_next, through_stop}
use Rattle.doi_table.proofs.numbers.apply.Goals as goal

pub loop-i-init : goal.loop-i-init
loop-i-init c =
    let empty : length (runs_of c.clear.new.self) ≡ 0 = ap (λ s. length (runs_of s)) c.clear.ensures in
    record {
      through = through_start c.args.pairs.now c.args.from.now c.clear.new.self c.runs-i-end.ensures.categories c.clear.ensures;
      rising = c.requires.rising;
      below = c.requires.below;
      room = omega (arith, c.requires.few);
    }

pub returns-in_err-rest-clause-err : goal.returns-in_err-rest-clause-err
returns-in_err-rest-clause-err c =
    let p = err_from_is_err_and c.from_residual.result c.from_residual.ensures.1 in
    rw (p.1, p.2) (through_stop c.args.pairs.now c.loop-i.rest.now c.args.from.now c.loop-i.into c.loop-i.i c.in_err-rest.field-0.0 c.run-first.result c.run-first.ensures.run c.run-first.ensures.order c.in_err-rest.ensures.err c.loop-i.invariant.through)

pub loop-i-preserved : goal.loop-i-preserved
loop-i-preserved c =
    let run = c.in_ok-rest.ensures in
    record {
      through = through_next c.args.pairs.now c.loop-i.rest.now c.in_ok-rest.rest.now c.args.from.now c.loop-i.into c.apply_run.new.into c.loop-i.i c.run-first.result c.run-first.ensures.run c.run-first.ensures.order run.ok c.loop-i.invariant.through;
      rising = run.rising;
      below = run.below;
      room = run.room;
    }
