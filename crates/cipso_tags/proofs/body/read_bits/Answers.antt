use Rattle.mls_label.proofs.octet_grammar.Octets.{octets_of}
use Rattle.cipso_tags.proofs.Bits.{bits_end}
use Rattle.cipso_tags.proofs.body.read_bits.Goals as goal

pub returns-then-bytes-size-clause-err : goal.returns-then-bytes-size-clause-err
returns-then-bytes-size-clause-err c =
    rw c.ended.ensures (bits_end c.args.size c.args.bytes.now c.requires c.if-bytes-size.true (octets_of c.args.bytes.now c.type_inv.bytes))
