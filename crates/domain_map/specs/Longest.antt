-- The longest prefix that holds an address.
use Rattle.std.specs.Prelude.{ℕ, ◌&&◌, nat_eq, max, List, Option, fold, map, filter, find}
use Rattle.domain_map.specs.declared.address_text.address.Address.{Address}
use Rattle.domain_map.specs.address_text.Prefix.{AddressBlock, holds}

module _ {X : Type 0} (prefix_of : X → AddressBlock) (address : Address) where
  -- the most bits that a prefix has which holds the address
  abbrev pub most_bits : List X → ℕ
  most_bits xs = fold max 0 (map (λ x. (prefix_of x).bits) (filter (λ x. holds (prefix_of x) address) xs))

  -- the one whose prefix holds the address and has as many bits
  abbrev pub longest : List X → Option X
  longest xs = find (λ x. holds (prefix_of x) address && nat_eq (prefix_of x).bits (most_bits xs)) xs
