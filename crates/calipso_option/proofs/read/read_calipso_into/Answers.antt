use Rattle.std.proofs.lemmas.Result.{err_from_is_err_and}
use Rattle.mls_label.proofs.octet_grammar.Octets.{octets_of}
use Rattle.calipso_option.proofs.Shapes.{false_checksum}
use Rattle.calipso_option.proofs.read.read_calipso_into.Goals as goal

pub returns-in_err-test_checksum-clause-err : goal.returns-in_err-test_checksum-clause-err
returns-in_err-test_checksum-clause-err c =
    let s = c.args.bytes.now in
    let p = err_from_is_err_and c.from_residual-in_err-test_checksum.result c.from_residual-in_err-test_checksum.ensures.1 in
    rw (p.1, p.2) (false_checksum s c.in_ok-length.length c.in_err-test_checksum.field-0.0 (octets_of s c.type_inv.bytes) c.in_ok-length.ensures.ok c.in_err-test_checksum.ensures.err)
