use Rattle.std.proofs.Common.{◌∙◌, sym, arith}
use Rattle.std.proofs.lemmas.Str.Parse.{digit_at}
use Rattle.std.proofs.lemmas.List.{take_all}
use Rattle.mls_label.proofs.octet_grammar.Digits.{read_more, value_times_ten}
use Rattle.mls_label.proofs.octet_grammar.decimal.value_of_digits.Goals as goal

pub returns-then-not-is_ascii_digit-clause-none : goal.returns-then-not-is_ascii_digit-clause-none
returns-then-not-is_ascii_digit-clause-none c digits =
    let range = digit_at c.args.text.now c.loop-octet.octet-index digits c.loop-octet-test.true in
    let other = (c.if-not-is_ascii_digit.ensures).cases in
    absurd (grind (arith, range, other))

pub returns-in_default-clause-none : goal.returns-in_default-clause-none
returns-in_default-clause-none c digits =
    let range = (c.if-not-is_ascii_digit.ensures).cases in
    let i = c.loop-octet.octet-index in
    let small = value_times_ten c.args.text.now i c.loop-octet.value c.loop-octet-test.true c.loop-octet.invariant.value range.0 range.1 in
    let big = c.in_default.ensures in
    grind (arith, small, big)

pub loop-octet-preserved : goal.loop-octet-preserved
loop-octet-preserved c =
    let range = (c.if-not-is_ascii_digit.ensures).cases in
    let i = c.loop-octet.octet-index in
    let more = read_more c.args.text.now i c.loop-octet.value c.loop-octet-test.true c.loop-octet.invariant.digits c.loop-octet.invariant.value range.0 range.1 in
    let fits = c.in-Some.ensures in
    record { digits = more.0; value = more.1 ∙ sym fits.1; fits = omega (arith, fits) }

pub returns-clause-digits : goal.returns-clause-digits
returns-clause-digits c =
    let all = take_all c.loop-octet.octet-index c.args.text.now c.loop-octet-test.false in
    let digits = rw all at c.loop-octet.invariant.digits in
    let value = rw all at c.loop-octet.invariant.value in
    (digits, value, c.loop-octet.invariant.fits)
