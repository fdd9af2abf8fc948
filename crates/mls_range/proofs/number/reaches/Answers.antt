use Rattle.std.proofs.Common.{arith}
use Rattle.mls_range.proofs.Digits.{reaches_now, reaches_past, reaches_more, reaches_less}
use Rattle.mls_range.proofs.number.reaches.Goals as goal

pub returns-then-low-last : goal.returns-then-low-last
returns-then-low-last c =
    let i = c.loop-first.invariant in
    i.into (reaches_now c.loop-first.first c.loop-first.last c.args.low c.args.high i.order c.requires.order c.loop-first-test.true c.if-low-last.true)

pub loop-first-preserved : goal.loop-first-preserved
loop-first-preserved c =
    let i = c.loop-first.invariant in
    let a = c.loop-first.first in
    let b = c.loop-first.last in
    record {
      small = omega arith;
      order = omega arith;
      into = λ r. i.into (reaches_less a b c.args.low c.args.high r);
      back = λ r. reaches_more a b c.args.low c.args.high c.if-low-last.false (i.back r);
    }

pub returns : goal.returns
returns c =
    λ r. reaches_past c.loop-first.first c.loop-first.last c.args.low c.args.high c.loop-first-test.false (c.loop-first.invariant.back r)
