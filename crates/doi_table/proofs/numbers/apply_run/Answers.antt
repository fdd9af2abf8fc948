use Rattle.std.proofs.Common.{arith}
use Rattle.doi_table.proofs.Lookups.{rising_rest, below_rest}
use Rattle.doi_table.proofs.Walks.{at_first, at_next, at_stop}
use Rattle.doi_table.proofs.numbers.apply_run.Goals as goal

pub loop-c-init : goal.loop-c-init
loop-c-init c =
    let from = c.pairs_from-rest.ensures in
    record {
      at = at_first c.args.pairs.now c.pairs_from-rest.result.now c.args.first c.args.last c.args.into.now c.requires.order c.requires.categories from.same;
      rising = from.rising;
      below = from.below 65535 c.requires.below;
      room = omega (arith, from.fewer, c.requires.room);
    }

pub returns-in-None-clause-err : goal.returns-in-None-clause-err
returns-in-None-clause-err c =
    at_stop c.args.pairs.now c.loop-c.rest.now c.args.first c.args.last c.loop-c.c c.args.into.now c.loop-c.into (omega arith) c.in-None.ensures.none c.loop-c.invariant.at

pub loop-c-preserved : goal.loop-c-preserved
loop-c-preserved c =
    let one = c.in-Some.ensures.some in
    let kept = c.loop-c.invariant in
    record {
      at = at_next c.args.pairs.now c.loop-c.rest.now c.in-Some.behind.now c.args.first c.args.last c.loop-c.c one.0 c.args.into.now c.loop-c.into c.apply_one.new.into (omega arith) c.requires.categories one.1 one.2 kept.at;
      rising = rising_rest c.loop-c.c one.0 c.loop-c.rest.now c.in-Some.behind.now one.1 kept.rising;
      below = below_rest 65535 c.loop-c.c one.0 c.loop-c.rest.now c.in-Some.behind.now one.1 kept.below;
      room = c.in-Some.ensures.room;
    }
