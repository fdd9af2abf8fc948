use Rattle.std.proofs.Common.{arith}
use Rattle.call_report.proofs.Counting.{digit_up, digit_carried}
use Rattle.call_report.proofs.beginning.+count_up.Goals as goal

pub returns-then-digits-last-lt57-clause-counted : goal.returns-then-digits-last-lt57-clause-counted
returns-then-digits-last-lt57-clause-counted t c _ number small spelled =
    digit_up number _ _ small (omega (arith, c.in-Some.ensures)) c.if-digits-last-lt57.true spelled

pub returns-clause-counted : goal.returns-clause-counted
returns-clause-counted t c counted number small spelled =
    digit_carried number _ _ _ small (omega (arith, c.in-Some.ensures)) (omega (arith, c.if-digits-last-lt57.false))
    (c.count_up.ensures.some counted) spelled (c.count_up.ensures.counted counted)
