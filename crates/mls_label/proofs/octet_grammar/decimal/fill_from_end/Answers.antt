use Rattle.std.proofs.Common.{◌++◌, ap, ◌∙◌, arith}
use Rattle.std.specs.Fmt.{decimal}
use Rattle.std.proofs.lemmas.List.{append-nil, drop_all}
use Rattle.std.proofs.lemmas.Fmt.{decimal_nonempty}
use Rattle.mls_label.proofs.octet_grammar.Digits.{room_for_decimal, step_room, step_digits, last_digits}
use Rattle.mls_label.proofs.octet_grammar.decimal.fill_from_end.Goals as goal

pub loop-rest-init : goal.loop-rest-init
loop-rest-init c = record {
  spelled = ap (λ t. decimal c.args.n ++ t) (drop_all 20 c.args.digits.now (omega arith)) ∙ append-nil (decimal c.args.n);
  room = room_for_decimal c.args.n (omega arith);
  within = omega arith;
}

pub overflow_sub-first : goal.overflow_sub-first
overflow_sub-first c =
    let step = step_room c.loop-rest.rest c.loop-rest.first c.loop-rest-test.true (omega arith) c.loop-rest.invariant.room in
    omega (arith, step)

pub loop-rest-preserved : goal.loop-rest-preserved
loop-rest-preserved c =
    let step = step_room c.loop-rest.rest c.loop-rest.first c.loop-rest-test.true (omega arith) c.loop-rest.invariant.room in
    record {
      spelled = step_digits c.loop-rest.rest c.args.n c.loop-rest.first c.loop-rest.digits c.loop-rest-test.true (omega arith) (omega (arith, step)) (omega arith) c.loop-rest.invariant.spelled;
      room = step.0;
      within = omega arith;
    }

pub overflow_sub-first-2 : goal.overflow_sub-first-2
overflow_sub-first-2 c = omega (arith, decimal_nonempty c.loop-rest.rest (omega arith))

pub returns-clause-digits : goal.returns-clause-digits
returns-clause-digits c =
    last_digits c.loop-rest.rest c.args.n c.loop-rest.first c.loop-rest.digits (omega arith) (omega (arith, decimal_nonempty c.loop-rest.rest (omega arith))) (omega arith) c.loop-rest.invariant.spelled
