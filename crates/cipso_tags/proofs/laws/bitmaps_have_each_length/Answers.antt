use Rattle.cipso_tags.proofs.Law.{bitmaps_have_each_length}
use Rattle.cipso_tags.proofs.laws.bitmaps_have_each_length.Goals as goal

pub returns : goal.returns
returns c = bitmaps_have_each_length
