use Rattle.domain_map.proofs.address_text.Law.{address_texts_compute}
use Rattle.domain_map.proofs.address_text.laws.address_texts_compute.Goals as goal

pub returns : goal.returns
returns c = address_texts_compute
