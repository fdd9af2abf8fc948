-- Addresses as keys.
use Rattle.std.proofs.Common.{◌≡◌, refl, sym, ◌∙◌}
use Rattle.domain_map.specs.declared.address_text.address.Address.{Address}
use Rattle.domain_map.specs.declared.address_text.address.Address.TheVariants.{V4, V6}
use Rattle.std.proofs.lemmas.Cmp.{nat_list_eq_equiv}
use Rattle.domain_map.specs.address_text.Address.{same_address}
use Rattle.domain_map.specs.contracts.address_text.address.AddressPartialEq.TheImpl.{ghosts}

-- a map compares them as the definitions do
pub address_eq_is : (a b : Address) → ghosts.eq a b ≡ same_address a b
address_eq_is (V4 a) (V4 b) = refl
address_eq_is (V4 a) (V6 b) = refl
address_eq_is (V6 a) (V4 b) = refl
address_eq_is (V6 a) (V6 b) = refl

pub same_address_flips : (a b : Address) → same_address a b ≡ same_address b a
same_address_flips (V4 a) (V4 b) = nat_list_eq_equiv.symm a b
same_address_flips (V4 a) (V6 b) = refl
same_address_flips (V6 a) (V4 b) = refl
same_address_flips (V6 a) (V6 b) = nat_list_eq_equiv.symm a b

pub address_eq_flips : (a b : Address) → ghosts.eq a b ≡ ghosts.eq b a
address_eq_flips a b = address_eq_is a b ∙ same_address_flips a b ∙ sym (address_eq_is b a)
