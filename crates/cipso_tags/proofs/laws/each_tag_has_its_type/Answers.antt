use Rattle.cipso_tags.proofs.Law.{each_tag_has_its_type}
use Rattle.cipso_tags.proofs.laws.each_tag_has_its_type.Goals as goal

pub returns : goal.returns
returns c = each_tag_has_its_type
