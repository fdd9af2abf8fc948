use Rattle.domain_map.proofs.address_text.Law.{computed_addresses_are_of_the_text}
use Rattle.domain_map.proofs.address_text.laws.computed_addresses_are_of_the_text.Goals as goal

pub returns : goal.returns
returns c = computed_addresses_are_of_the_text
