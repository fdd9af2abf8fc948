use Rattle.cipso_tags.proofs.Law.{one_value_for_each_tag}
use Rattle.cipso_tags.proofs.laws.one_value_for_each_tag.Goals as goal

pub returns : goal.returns
returns c = one_value_for_each_tag
