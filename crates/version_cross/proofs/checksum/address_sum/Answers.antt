use Rattle.std.proofs.Common.{ℕ, ◌%◌, ap, ◌∙◌}
use Rattle.mls_label.proofs.octet_grammar.Octets.{octets_of}
use Rattle.ip_headers.specs.Sum.{ones_add}
use Rattle.version_cross.proofs.Words.{ones_sums-modulo}
use Rattle.version_cross.proofs.checksum.address_sum.Goals as goal

pub returns : goal.returns
returns c =
    let source = c.args.source.now in
    let destination = c.args.destination.now in
    ap (λ (n : ℕ). n % 65535) (c.ones_add.ensures ∙ (λ i. ones_add (c.ones_sum.ensures i) (c.ones_sum-2.ensures i)))
    ∙ ones_sums-modulo source destination (octets_of source c.type_inv.source) (octets_of destination c.type_inv.destination)
