-- What the removal of an address leaves.
use Rattle.std.specs.Prelude.{◌≡◌, ℕ, List, length, Some}
use Rattle.domain_map.specs.address_text.Prefix.{AddressBlock}
use Rattle.domain_map.specs.declared.protocol.Protocol.{Protocol}
use Rattle.domain_map.specs.declared.rule.Rule.{Rule}
use Rattle.domain_map.specs.declared.rule.Rule.TheVariants.{Addresses}
use Rattle.domain_map.specs.Domains.{fewer}

-- these addresses are left, so many
pub record LeavesOf (old : Rule) (block : AddressBlock) (new : Rule) (left : ℕ) : Type 0 where
  pub addresses : List (AddressBlock × Protocol)
  pub fewer_is : fewer old block ≡ Some addresses
  pub count : left ≡ length addresses
  pub new_is : new ≡ Addresses addresses
