use Rattle.cipso_tags.proofs.Law.{tags_have_4_to_34_octets}
use Rattle.cipso_tags.proofs.laws.tags_have_4_to_34_octets.Goals as goal

pub returns : goal.returns
returns c = tags_have_4_to_34_octets
