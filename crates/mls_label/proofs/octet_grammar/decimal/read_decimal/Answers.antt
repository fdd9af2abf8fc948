use Rattle.mls_label.proofs.octet_grammar.Digits.{unspelled, read_as_spelled, refused_as_unspelled}
use Rattle.mls_label.proofs.octet_grammar.decimal.read_decimal.Goals as goal

pub returns-then-has_spare_zero-clause-none : goal.returns-then-has_spare_zero-clause-none
returns-then-has_spare_zero-clause-none c n small = unspelled c.args.text.now n small c.if-has_spare_zero.ensures

pub returns-clause-read : goal.returns-clause-read
returns-clause-read c =
    read_as_spelled c.args.text.now c.value_of_digits.result c.if-has_spare_zero.ensures.0 c.if-has_spare_zero.ensures.1 c.value_of_digits.ensures.digits

pub returns-clause-none : goal.returns-clause-none
returns-clause-none c = refused_as_unspelled c.args.text.now c.value_of_digits.result c.value_of_digits.ensures.none
