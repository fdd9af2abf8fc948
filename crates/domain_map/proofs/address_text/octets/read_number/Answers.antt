use Rattle.std.proofs.Common.{sym, ◌∙◌, arith}
use Rattle.domain_map.proofs.address_text.Parts.{number_of_decimal, number_too_large, no_number}
use Rattle.domain_map.proofs.address_text.octets.read_number.Goals as goal

pub returns-in_err-number : goal.returns-in_err-number
returns-in_err-number c = c.from_residual.ensures ∙ sym (no_number c.args.most c.args.text.now (omega arith) c.in_err-number.ensures.none)

pub returns-then-number-from : goal.returns-then-number-from
returns-then-number-from c = sym (number_too_large c.args.most c.in_ok-number.number c.args.text.now (omega arith) c.in_ok-number.ensures.read (omega arith))

pub returns : goal.returns
returns c = sym (number_of_decimal c.args.most c.in_ok-number.number c.args.text.now (omega arith) c.in_ok-number.ensures.read (omega arith))
