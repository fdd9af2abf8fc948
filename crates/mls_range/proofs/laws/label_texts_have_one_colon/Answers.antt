use Rattle.mls_range.proofs.Law.{label_texts_have_one_colon}
use Rattle.mls_range.proofs.laws.label_texts_have_one_colon.Goals as goal

pub returns : goal.returns
returns c = label_texts_have_one_colon
