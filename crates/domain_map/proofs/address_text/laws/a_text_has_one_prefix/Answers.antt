use Rattle.domain_map.proofs.address_text.Law.{a_text_has_one_prefix}
use Rattle.domain_map.proofs.address_text.laws.a_text_has_one_prefix.Goals as goal

pub returns : goal.returns
returns c = a_text_has_one_prefix
