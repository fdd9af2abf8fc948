-- Address prefixes: an address and how many of its bits count (RFC 4291 section 2.3, RFC 4632 for IPv4).
use Rattle.std.specs.Prelude.{◌≡◌, ℕ, ◌-◌, ◌%◌, ◌^◌, ◌≤◌, Bool, ◌==◌, ◌&&◌, nat_eq, List, [], ◌∷◌, ◌++◌, Option, Some, None, option_map, option_and_then}
use Rattle.std.specs.List.{slice_split}
use Rattle.std.specs.Fmt.{decimal}
use Rattle.domain_map.specs.declared.address_text.address.Address.{Address}
use Rattle.domain_map.specs.declared.address_text.address.Address.TheVariants.{V4, V6}
use Rattle.domain_map.specs.address_text.Number.{number_of_text}
use Rattle.domain_map.specs.address_text.Address.{IsAddress, address_of_text, address_text, same_address, width_of}

-- a prefix
pub record AddressBlock : Type 0 where
  pub address : Address
  pub bits : ℕ

-- the first bits of the octets, the others cleared
abbrev pub first_bits : ℕ → List ℕ → List ℕ
first_bits bits [] = []
first_bits bits (octet ∷ octets) = (octet - octet % 2 ^ (8 - bits)) ∷ first_bits (bits - 8) octets

-- an address with all bits behind the first so many cleared
abbrev pub masked : ℕ → Address → Address
masked bits (V4 octets) = V4 (first_bits bits octets)
masked bits (V6 octets) = V6 (first_bits bits octets)

-- the prefix of an address by its first bits
abbrev pub block_of : Address → ℕ → AddressBlock
block_of address bits = record { address = masked bits address; bits = bits }

-- the same prefix
abbrev pub same_block : AddressBlock → AddressBlock → Bool
same_block a b = same_address a.address b.address && nat_eq a.bits b.bits

-- Its bits are no more than the address has, and past the mask they are clear.
pub record IsBlock (block : AddressBlock) : Type 0 where
  pub address : IsAddress block.address
  pub bits : block.bits ≤ width_of block.address
  pub clear : masked block.bits block.address ≡ block.address

-- the address is of the prefix's family and begins with its bits
abbrev pub holds : AddressBlock → Address → Bool
holds block address = same_address (masked block.bits address) block.address

-- an address alone is the prefix of all of its bits
abbrev pub whole_block : Address → AddressBlock
whole_block address = block_of address (width_of address)

-- the prefix by what stands in front of a slash and behind it; an address alone is one of all its bits
abbrev pub block_of_parts : List (List ℕ) → Option AddressBlock
block_of_parts (address ∷ []) = option_map whole_block (address_of_text address)
block_of_parts (address ∷ bits ∷ []) = option_and_then (λ a. option_map (block_of a) (number_of_text (width_of a) bits)) (address_of_text address)
block_of_parts parts = None

-- an address, and mostly a slash and how many bits count
abbrev pub block_of_text : List ℕ → Option AddressBlock
block_of_text text = block_of_parts (slice_split (λ c. c == 47) text)

abbrev pub IsPrefixText : List ℕ → AddressBlock → Type 0
IsPrefixText text block = block_of_text text ≡ Some block

-- the one written form has the bits
abbrev pub prefix_text : AddressBlock → List ℕ
prefix_text block = address_text block.address ++ 47 ∷ decimal block.bits
