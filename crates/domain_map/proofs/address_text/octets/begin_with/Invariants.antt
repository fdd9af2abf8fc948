use Rattle.std.proofs.Common.{◌≡◌, length}
use Rattle.std.specs.Str.{bytes_eq}
use Rattle.domain_map.specs.address_text.Prefix.{first_bits}
use Rattle.domain_map.proofs.address_text.octets.begin_with.Given as goal

abbrev pub invariant-loop-octets : goal.invariant-loop-octets
invariant-loop-octets l = bytes_eq (first_bits l.fn.bits l.fn.octets) l.fn.wanted ≡ bytes_eq (first_bits l.left l.octets) l.wanted

abbrev pub decreases-loop-octets : goal.decreases-loop-octets
decreases-loop-octets l = length l.octets
