use Rattle.std.proofs.Common.{[], ◌∷◌, ◌+◌, ◌/◌, ◌%◌, decimal, arith}
use Rattle.std.proofs.lemmas.Fmt.{decimal_digit, decimal_step}
use Rattle.call_report.proofs.report_lines.Fronts.{after_both, not_after}
use Rattle.call_report.proofs.report_lines.label_text.+after_number.Goals as goal

pub returns-then-number-lt10 : goal.returns-then-number-lt10
returns-then-number-lt10 t c = rw (decimal_digit c.args.number (omega (arith, c.if-number-lt10.true))) c.after_octet.ensures

pub returns-in_default : goal.returns-in_default
returns-in_default t c =
    let n = c.args.number in
    rw (decimal_step n (omega (arith, c.if-number-lt10.false)) (omega arith)) (not_after ((48 + n % 10) ∷ []) (decimal (n / 10)) c.args.text.now c.in_default.ensures)

pub returns : goal.returns
returns t c =
    let n = c.args.number in
    rw (decimal_step n (omega (arith, c.if-number-lt10.false)) (omega arith), after_both ((48 + n % 10) ∷ []) (decimal (n / 10)) c.args.text.now c.in-Some.last.now c.in-Some.ensures) c.after_octet-2.ensures
