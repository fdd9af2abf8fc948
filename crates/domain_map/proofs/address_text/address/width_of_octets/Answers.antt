use Rattle.std.proofs.Common.{refl, arith}
use Rattle.domain_map.proofs.address_text.address.width_of_octets.Goals as goal

pub returns-clause-octets : goal.returns-clause-octets
returns-clause-octets c = record { count = refl; fit = λ k. omega (arith, c.type_inv.octets k) }
