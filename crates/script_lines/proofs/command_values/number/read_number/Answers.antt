use Rattle.std.proofs.Common.{sym, ◌∙◌, arith}
use Rattle.script_lines.proofs.command_values.Numbers.{number_of_decimal, number_too_large, no_number}
use Rattle.script_lines.proofs.command_values.number.read_number.Goals as goal

pub returns-in_err-number-clause-value : goal.returns-in_err-number-clause-value
returns-in_err-number-clause-value c = c.from_residual.ensures ∙ sym (no_number c.args.most c.args.text.now (omega arith) c.in_err-number.ensures.none)

pub returns-then-number-from-clause-value : goal.returns-then-number-from-clause-value
returns-then-number-from-clause-value c = sym (number_too_large c.args.most c.in_ok-number.number c.args.text.now (omega arith) c.in_ok-number.ensures.read (omega arith))

pub returns-clause-value : goal.returns-clause-value
returns-clause-value c = sym (number_of_decimal c.args.most c.in_ok-number.number c.args.text.now (omega arith) c.in_ok-number.ensures.read (omega arith))
