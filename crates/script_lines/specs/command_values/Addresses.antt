-- Addresses of one family.
use Rattle.std.specs.Prelude.{ℕ, List, Option, Some, None, option_and_then}
use Rattle.domain_map.specs.declared.address_text.address.Address.{Address}
use Rattle.domain_map.specs.declared.address_text.address.Address.TheVariants.{V4, V6}
use Rattle.domain_map.specs.address_text.Address.{address_of_text}

-- the octets of an address of version 4
abbrev pub four_octets : Address → Option (List ℕ)
four_octets (V4 octets) = Some octets
four_octets (V6 octets) = None

-- the octets of an address of version 6
abbrev pub sixteen_octets : Address → Option (List ℕ)
sixteen_octets (V4 octets) = None
sixteen_octets (V6 octets) = Some octets

-- the octets of an IPv4 address
abbrev pub four_of_text : List ℕ → Option (List ℕ)
four_of_text text = option_and_then four_octets (address_of_text text)

-- the octets of an IPv6 address
abbrev pub sixteen_of_text : List ℕ → Option (List ℕ)
sixteen_of_text text = option_and_then sixteen_octets (address_of_text text)
