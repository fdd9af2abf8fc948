use Rattle.std.proofs.Common.{subst}
use Rattle.domain_map.specs.address_text.Address.{IsAddress}
use Rattle.domain_map.proofs.address_text.Masks.{is_block}
use Rattle.domain_map.proofs.address_text.prefix.Prefix.of.Goals as goal

pub invariant_of-result : goal.invariant_of-result
invariant_of-result c =
    let is = subst IsAddress c.masked-address.ensures c.width.ensures.address in
    rw c.masked-address.ensures (is_block c.args.address c.args.bits is c.requires)
