use Rattle.std.proofs.Common.{◌≡◌, ◌+◌, ◌-◌, ◌*◌, ◌<◌, get_or, subst, arith, inl, inr, ◌⊎◌}
use Rattle.mls_range.proofs.Numbers.{HasDigits, EndsDigits, has_small, has_more, ends_here, ends_past, number_fault, number_read}
use Rattle.mls_range.proofs.number.read_number.Goals as goal
use Rattle.mls_range.proofs.number.read_number.Goals.{then-loop-at-test+else-goes_on, else-loop-at-test, then-at-start-via-then-at-start, then-at-start-via-else-at-start+then-number-low}

pub goes_on-requires-clause-small : goal.goes_on-requires-clause-small
goes_on-requires-clause-small c =
    let a = c.args in
    omega (arith, has_small a.text.now a.start c.loop-at.at a.low a.high c.loop-at.number c.requires.bound c.loop-at.invariant)

pub overflow_mul-number : goal.overflow_mul-number
overflow_mul-number c =
    let a = c.args in
    omega (arith, has_small a.text.now a.start c.loop-at.at a.low a.high c.loop-at.number c.requires.bound c.loop-at.invariant)

pub overflow_add-number : goal.overflow_add-number
overflow_add-number c =
    let a = c.args in
    omega (arith, has_small a.text.now a.start c.loop-at.at a.low a.high c.loop-at.number c.requires.bound c.loop-at.invariant)

pub loop-at-preserved : goal.loop-at-preserved
loop-at-preserved c =
    let a = c.args in
    let h = has_more a.text.now a.start c.loop-at.at a.low a.high c.loop-at.number c.requires.bound c.loop-at-test.true c.loop-at.invariant c.if-goes_on.ensures in
    let e : get_or a.text.now c.loop-at.at 0 - 48 ≡ c.from.result = cc in
    subst (λ d. HasDigits a.text.now a.start (c.loop-at.at + 1) a.low a.high (10 * c.loop-at.number + d)) e h

pub returns-then-at-start-clause-err : goal.returns-then-at-start-clause-err
returns-then-at-start-clause-err c =
    let a = c.args in
    let l = c.loop-at in
    let ends : EndsDigits a.text.now l.at a.low a.high l.invariant.digits = elim c.loop-at-test.branch [
      | then-loop-at-test+else-goes_on w ↦ ends_here a.text.now a.start l.at a.low a.high l.number c.requires.bound w.loop-at-test.true l.invariant w.if-goes_on.ensures
      | else-loop-at-test w ↦ ends_past a.text.now l.at a.low a.high l.invariant.digits w.loop-at-test.false
    ] in
    let bad : (l.at ≡ a.start) ⊎ (l.number < a.low) = elim c.then-at-start.branch [
      | then-at-start-via-then-at-start w ↦ inl w.if-at-start.true
      | then-at-start-via-else-at-start+then-number-low w ↦ inr w.if-number-low.true
    ] in
    number_fault a.text.now a.start l.at a.low a.high l.number c.fault_at.result c.requires.bound l.invariant ends bad c.fault_at.ensures.place c.fault_at.ensures.kind

pub returns-clause-ok : goal.returns-clause-ok
returns-clause-ok c =
    let a = c.args in
    let l = c.loop-at in
    let ends : EndsDigits a.text.now l.at a.low a.high l.invariant.digits = elim c.loop-at-test.branch [
      | then-loop-at-test+else-goes_on w ↦ ends_here a.text.now a.start l.at a.low a.high l.number c.requires.bound w.loop-at-test.true l.invariant w.if-goes_on.ensures
      | else-loop-at-test w ↦ ends_past a.text.now l.at a.low a.high l.invariant.digits w.loop-at-test.false
    ] in
    number_read a.text.now a.start l.at a.low a.high l.number c.requires.bound l.invariant ends c.if-at-start.false c.if-number-low.false
