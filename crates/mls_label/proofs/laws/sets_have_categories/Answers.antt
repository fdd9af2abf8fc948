use Rattle.mls_label.proofs.Law.{sets_have_categories}
use Rattle.mls_label.proofs.laws.sets_have_categories.Goals as goal

pub returns : goal.returns
returns c = sets_have_categories
