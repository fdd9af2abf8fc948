use Rattle.mls_range.proofs.Law.{label_texts_have_few_octets}
use Rattle.mls_range.proofs.laws.label_texts_have_few_octets.Goals as goal

pub returns : goal.returns
returns c = label_texts_have_few_octets
